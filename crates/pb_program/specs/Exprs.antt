-- What contracts see of expressions: plain data, with lists of its own.
use Rattle.std.specs.Prelude.{ℕ, List, [], ◌∷◌}
use Rattle.pb_syntax.specs.declared.tree.expression.Level.{Level}
use Rattle.pb_syntax.specs.declared.tree.expression.Operator.{Operator}
use Rattle.pb_syntax.specs.declared.tree.expression.Relation.{Relation}
use Rattle.pb_syntax.specs.declared.tree.expression.UnarySign.{UnarySign}
use Rattle.pb_program.specs.declared.meaning.Named.{Named}
use Rattle.pb_program.specs.declared.meaning.Called.{Called}
use Rattle.pb_program.specs.declared.expression.Expr.{Expr}
use Rattle.pb_program.specs.declared.expression.Expr.TheOpen.{Expr-F}
use Rattle.pb_program.specs.declared.expression.Expr.TheFolds.{fold-Expr}

mutual
  pub data ExprValue : Type 0 where
    number : ℕ → ℕ → ExprValue
    name : Named → ExprValue
    call : Called → ExprValues → ExprValue
    parentheses : ℕ → ExprValue → ExprValue
    cell : Named → ExprValues → ExprValue
    width : Named → ExprValue
    height : Named → ExprValue
    signed : ℕ → UnarySign → ExprValue → ExprValue
    chain : Level → ExprValue → OperandValues → ExprValue
    compare : ExprValue → Relation → ExprValue → ExprValue

  pub data ExprValues : Type 0 where
    no_exprs : ExprValues
    an_expr : ExprValue → ExprValues → ExprValues

  pub data OperandValues : Type 0 where
    no_operands : OperandValues
    an_operand : Operator → ExprValue → OperandValues → OperandValues

abbrev pub exprs : List ExprValue → ExprValues
exprs [] = no_exprs
exprs (e ∷ rest) = an_expr e (exprs rest)

abbrev pub operands : List (Operator × ExprValue) → OperandValues
operands [] = no_operands
operands (o ∷ rest) = an_operand o.0 o.1 (operands rest)

abbrev pub bare_step : Expr-F ExprValue → ExprValue
bare_step (Expr-F.Number at value) = number at value
bare_step (Expr-F.Name n) = name n
bare_step (Expr-F.Call n arguments) = call n (exprs arguments.items)
bare_step (Expr-F.Parentheses at inner) = parentheses at inner.value
bare_step (Expr-F.Cell n coordinates) = cell n (exprs coordinates.items)
bare_step (Expr-F.Width n) = width n
bare_step (Expr-F.Height n) = height n
bare_step (Expr-F.Signed at sign operand) = signed at sign operand.value
bare_step (Expr-F.Chain level first rest) = chain level first.value (operands rest.items)
bare_step (Expr-F.Compare left relation right) = compare left.value relation right.value

-- an expression without pointers
abbrev pub bare : Expr → ExprValue
bare = fold-Expr ExprValue bare_step
