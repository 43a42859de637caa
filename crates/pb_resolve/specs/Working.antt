-- Parts of a body as they are held: what they are resolved to, and their faults.
use Rattle.std.specs.Prelude.{List, [], ◌∷◌, ◌++◌, map}
use Rattle.std.specs.List.{flat_map}
use Rattle.pb_syntax.specs.declared.tree.expression.Operator.{Operator}
use Rattle.pb_syntax.specs.declared.tree.expression.ExprText.{ExprText}
use Rattle.pb_syntax.specs.declared.tree.statement.StmtText.{StmtText}
use Rattle.pb_syntax.specs.Exprs.{bare, exprs, operands}
use Rattle.pb_syntax.specs.Stmts.{bare_stmt, stmts}
use Rattle.pb_program.specs.Exprs.{ExprValue, ExprValues, OperandValues}
use Rattle.pb_program.specs.Stmts.{StmtValue, StmtValues}
use Rattle.pb_names.specs.declared.fault.Fault.{Fault}
use Rattle.pb_names.specs.Bodies.{Visible, expr_of, exprs_of, operands_of, expr_faults, exprs_faults, operands_faults, stmt_of, stmts_of, stmt_faults, stmts_faults, after}

unfoldable pub expr_in : Visible → ExprText → ExprValue
expr_in v e = expr_of v (bare e)

unfoldable pub faults_in : Visible → ExprText → List Fault
faults_in v e = expr_faults v (bare e)

unfoldable pub exprs_in : Visible → List ExprText → ExprValues
exprs_in v xs = exprs_of v (exprs (map bare xs))

unfoldable pub exprs_faults_in : Visible → List ExprText → List Fault
exprs_faults_in v xs = exprs_faults v (exprs (map bare xs))

unfoldable pub args_in : Visible → List ExprText → List ExprValue
args_in v xs = map (expr_of v) (map bare xs)

unfoldable pub args_faults_in : Visible → List ExprText → List Fault
args_faults_in v xs = flat_map (expr_faults v) (map bare xs)

unfoldable pub operands_in : Visible → List (Operator × ExprText) → OperandValues
operands_in v xs = operands_of v (operands (map (λ o. (o.0, bare o.1)) xs))

unfoldable pub operands_faults_in : Visible → List (Operator × ExprText) → List Fault
operands_faults_in v xs = operands_faults v (operands (map (λ o. (o.0, bare o.1)) xs))

unfoldable pub operand_in : Visible → (Operator × ExprText) → Operator × ExprValue
operand_in v o = (o.0, expr_in v o.1)

unfoldable pub operand_faults_in : Visible → (Operator × ExprText) → List Fault
operand_faults_in v o = faults_in v o.1

unfoldable pub stmt_in : Visible → StmtText → StmtValue
stmt_in v s = stmt_of v (bare_stmt s)

unfoldable pub stmt_faults_in : Visible → StmtText → List Fault
stmt_faults_in v s = stmt_faults v (bare_stmt s)

unfoldable pub after_in : Visible → StmtText → Visible
after_in v s = after v (bare_stmt s)

unfoldable pub block_in : Visible → List StmtText → StmtValues
block_in v ss = stmts_of v (stmts (map bare_stmt ss))

unfoldable pub block_faults_in : Visible → List StmtText → List Fault
block_faults_in v ss = stmts_faults v (stmts (map bare_stmt ss))

-- statements, each seeing what is visible after those before it
abbrev pub body_in : Visible → List StmtText → List StmtValue
body_in v [] = []
body_in v (s ∷ rest) = stmt_in v s ∷ body_in (after_in v s) rest

abbrev pub body_faults_in : Visible → List StmtText → List Fault
body_faults_in v [] = []
body_faults_in v (s ∷ rest) = stmt_faults_in v s ++ body_faults_in (after_in v s) rest

abbrev pub after_all : Visible → List StmtText → Visible
after_all v [] = v
after_all v (s ∷ rest) = after_all (after_in v s) rest
