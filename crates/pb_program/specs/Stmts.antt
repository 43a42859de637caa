-- What contracts see of statements: plain data, with lists of its own.
use Rattle.std.specs.Prelude.{ℕ, List, [], ◌∷◌, Some, None, map}
use Rattle.pb_program.specs.declared.meaning.Named.{Named}
use Rattle.pb_program.specs.declared.meaning.Called.{Called}
use Rattle.pb_program.specs.Forms.{LocalFormValue}
use Rattle.pb_program.specs.Exprs.{ExprValue, bare}
use Rattle.pb_program.specs.declared.statement.Stmt.{Stmt}
use Rattle.pb_program.specs.declared.statement.Stmt.TheOpen.{Stmt-F}
use Rattle.pb_program.specs.declared.statement.Stmt.TheFolds.{fold-Stmt}

mutual
  pub data StmtValue : Type 0 where
    let_number : ℕ → Named → ExprValue → StmtValue
    let_matrix : ℕ → Named → List LocalFormValue → StmtValue
    assign : Named → ExprValue → StmtValue
    call_stmt : List Named → Called → List ExprValue → StmtValue
    assign_cell : Named → List ExprValue → ExprValue → StmtValue
    if_stmt : ℕ → ExprValue → StmtValues → StmtValue
    if_else : ℕ → ExprValue → StmtValues → StmtValues → StmtValue
    for_stmt : ℕ → Named → ExprValue → ExprValue → StmtValues → StmtValue

  pub data StmtValues : Type 0 where
    no_stmts : StmtValues
    a_stmt : StmtValue → StmtValues → StmtValues

abbrev pub stmts : List StmtValue → StmtValues
stmts [] = no_stmts
stmts (s ∷ rest) = a_stmt s (stmts rest)

abbrev pub bare_stmt_step : Stmt-F StmtValue → StmtValue
bare_stmt_step (Stmt-F.Let at name value) = let_number at name (bare value)
bare_stmt_step (Stmt-F.LetMatrix at name dims) = let_matrix at name dims.items
bare_stmt_step (Stmt-F.Assign target value) = assign target (bare value)
bare_stmt_step (Stmt-F.Call targets called arguments) = call_stmt targets.items called (map bare arguments.items)
bare_stmt_step (Stmt-F.AssignCell target coordinates value) = assign_cell target (map bare coordinates.items) (bare value)
bare_stmt_step (Stmt-F.If at test then None) = if_stmt at (bare test) (stmts then.items)
bare_stmt_step (Stmt-F.If at test then (Some otherwise)) = if_else at (bare test) (stmts then.items) (stmts otherwise.items)
bare_stmt_step (Stmt-F.For at name start end body) = for_stmt at name (bare start) (bare end) (stmts body.items)

-- a statement without pointers
abbrev pub bare_stmt : Stmt → StmtValue
bare_stmt = fold-Stmt StmtValue bare_stmt_step
