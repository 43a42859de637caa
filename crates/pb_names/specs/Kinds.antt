-- The kind of a rule: a body that calls a transform or declares a matrix makes it a plan.
use Rattle.std.specs.Prelude.{Bool, true, false, ◌||◌, List, map}
use Rattle.std.specs.List.{list_any}
use Rattle.pb_syntax.specs.declared.tree.expression.Operator.{Operator}
use Rattle.pb_program.specs.declared.expression.Expr.{Expr}
use Rattle.pb_program.specs.declared.statement.Stmt.{Stmt}
use Rattle.pb_program.specs.declared.meaning.Callee.{Callee}
use Rattle.pb_program.specs.declared.meaning.Callee.TheVariants as callee
use Rattle.pb_program.specs.Exprs.{ExprValue, ExprValues, OperandValues, no_exprs, an_expr, no_operands, an_operand, bare, exprs, operands}
use Rattle.pb_program.specs.Exprs as e
use Rattle.pb_program.specs.Stmts.{StmtValue, StmtValues, no_stmts, a_stmt, bare_stmt, stmts}
use Rattle.pb_program.specs.Stmts as s

abbrev pub is_transform : Callee → Bool
is_transform (callee.Transform t) = true
is_transform (callee.Function f) = false

-- an expression calls a transform
abbrev mutual
  pub calls : ExprValue → Bool
  calls (e.number at n) = false
  calls (e.name n) = false
  calls (e.call c xs) = is_transform c.what || some_calls xs
  calls (e.parentheses at x) = calls x
  calls (e.cell v xs) = some_calls xs
  calls (e.width v) = false
  calls (e.height v) = false
  calls (e.signed at sign x) = calls x
  calls (e.chain level x rest) = calls x || some_operand_calls rest
  calls (e.compare x relation y) = calls x || calls y

  pub some_calls : ExprValues → Bool
  some_calls no_exprs = false
  some_calls (an_expr x rest) = calls x || some_calls rest

  pub some_operand_calls : OperandValues → Bool
  some_operand_calls no_operands = false
  some_operand_calls (an_operand o x rest) = calls x || some_operand_calls rest

-- a statement calls a transform or declares a matrix
abbrev mutual
  pub plans : StmtValue → Bool
  plans (s.let_number at n x) = calls x
  plans (s.let_matrix at n dims) = true
  plans (s.assign n x) = calls x
  plans (s.call_stmt ns c xs) = is_transform c.what || list_any calls xs
  plans (s.assign_cell n xs x) = list_any calls xs || calls x
  plans (s.if_stmt at x ss) = calls x || some_plans ss
  plans (s.if_else at x ss others) = calls x || (some_plans ss || some_plans others)
  plans (s.for_stmt at n x y ss) = calls x || (calls y || some_plans ss)

  pub some_plans : StmtValues → Bool
  some_plans no_stmts = false
  some_plans (a_stmt x rest) = plans x || some_plans rest

unfoldable pub calls_in : Expr → Bool
calls_in x = calls (bare x)

unfoldable pub some_calls_in : List Expr → Bool
some_calls_in xs = some_calls (exprs (map bare xs))

unfoldable pub args_call_in : List Expr → Bool
args_call_in xs = list_any calls (map bare xs)

unfoldable pub operands_call_in : List (Operator × Expr) → Bool
operands_call_in xs = some_operand_calls (operands (map (λ o. (o.0, bare o.1)) xs))

unfoldable pub some_plans_in : List Stmt → Bool
some_plans_in ss = some_plans (stmts (map bare_stmt ss))

unfoldable pub plans_in : Stmt → Bool
plans_in x = plans (bare_stmt x)
