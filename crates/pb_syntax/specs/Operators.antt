-- The operators and relations that tokens are.
use Rattle.std.specs.Prelude.{Option, Some, None}
use Rattle.pb_syntax.specs.declared.kind.TokenKind.{TokenKind}
use Rattle.pb_syntax.specs.declared.kind.TokenKind.TheVariants as k
use Rattle.pb_syntax.specs.declared.tree.expression.Level.{Level}
use Rattle.pb_syntax.specs.declared.tree.expression.Level.TheVariants as level
use Rattle.pb_syntax.specs.declared.tree.expression.Operator.{Operator}
use Rattle.pb_syntax.specs.declared.tree.expression.Operator.TheVariants as operator
use Rattle.pb_syntax.specs.declared.tree.expression.Relation.{Relation}
use Rattle.pb_syntax.specs.declared.tree.expression.Relation.TheVariants as relation

-- the binary operator of a precedence level that a token is, if it is one
abbrev pub operator_of : Level → TokenKind → Option Operator
operator_of level.Product k.Times = Some operator.Times
operator_of level.Product k.Over = Some operator.Over
operator_of level.Product k.Modulo = Some operator.Modulo
operator_of level.Sum k.Plus = Some operator.Plus
operator_of level.Sum k.Minus = Some operator.Minus
operator_of level.Conjunction k.And = Some operator.And
operator_of level.Disjunction k.Or = Some operator.Or
operator_of _ _ = None

-- the relation that a token is, if it is one
abbrev pub relation_of : TokenKind → Option Relation
relation_of k.Less = Some relation.Less
relation_of k.LessOrEqual = Some relation.LessOrEqual
relation_of k.Greater = Some relation.Greater
relation_of k.GreaterOrEqual = Some relation.GreaterOrEqual
relation_of k.Equal = Some relation.Equal
relation_of k.Unequal = Some relation.Unequal
relation_of _ = None

-- the relations of conditions
abbrev pub condition_relation : TokenKind → Option Relation
condition_relation k.Unequal = None
condition_relation kind = relation_of kind
