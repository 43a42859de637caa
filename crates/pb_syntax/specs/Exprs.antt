-- What contracts see of expressions: plain data, with lists of its own.
use Rattle.std.specs.Prelude.{ℕ, List, [], ◌∷◌}
use Rattle.pb_values.specs.Name.{NameValue}
use Rattle.pb_syntax.specs.declared.tree.expression.Level.{Level}
use Rattle.pb_syntax.specs.declared.tree.expression.Operator.{Operator}
use Rattle.pb_syntax.specs.declared.tree.expression.Relation.{Relation}
use Rattle.pb_syntax.specs.declared.tree.expression.UnarySign.{UnarySign}
use Rattle.pb_syntax.specs.declared.tree.expression.ExprText.{ExprText}
use Rattle.pb_syntax.specs.declared.tree.expression.ExprText.TheOpen.{ExprText-F}
use Rattle.pb_syntax.specs.declared.tree.expression.ExprText.TheFolds.{fold-ExprText}

mutual
  pub data ExprTree : Type 0 where
    number : ℕ → ℕ → ExprTree
    name : NameValue → ExprTree
    call : NameValue → ExprTrees → ExprTree
    parentheses : ℕ → ExprTree → ExprTree
    cell : NameValue → ExprTrees → ExprTree
    width : NameValue → ExprTree
    height : NameValue → ExprTree
    signed : ℕ → UnarySign → ExprTree → ExprTree
    chain : Level → ExprTree → Operands → ExprTree
    compare : ExprTree → Relation → ExprTree → ExprTree

  pub data ExprTrees : Type 0 where
    no_exprs : ExprTrees
    an_expr : ExprTree → ExprTrees → ExprTrees

  pub data Operands : Type 0 where
    no_operands : Operands
    an_operand : Operator → ExprTree → Operands → Operands

abbrev pub exprs : List ExprTree → ExprTrees
exprs [] = no_exprs
exprs (e ∷ rest) = an_expr e (exprs rest)

abbrev pub operands : List (Operator × ExprTree) → Operands
operands [] = no_operands
operands (o ∷ rest) = an_operand o.0 o.1 (operands rest)

-- an operand alone, or a line of them
abbrev pub chained : Level → ExprTree → List (Operator × ExprTree) → ExprTree
chained l first [] = first
chained l first (x ∷ xs) = chain l first (operands (x ∷ xs))

abbrev pub bare_step : ExprText-F ExprTree → ExprTree
bare_step (ExprText-F.Number at value) = number at value
bare_step (ExprText-F.Name n) = name n
bare_step (ExprText-F.Call n arguments) = call n (exprs arguments.items)
bare_step (ExprText-F.Parentheses at inner) = parentheses at inner.value
bare_step (ExprText-F.Cell n coordinates) = cell n (exprs coordinates.items)
bare_step (ExprText-F.Width n) = width n
bare_step (ExprText-F.Height n) = height n
bare_step (ExprText-F.Signed at sign operand) = signed at sign operand.value
bare_step (ExprText-F.Chain level first rest) = chain level first.value (operands rest.items)
bare_step (ExprText-F.Compare left relation right) = compare left.value relation right.value

-- an expression without pointers
abbrev pub bare : ExprText → ExprTree
bare = fold-ExprText ExprTree bare_step
