-- What contracts see of statements: plain data, with lists of its own.
use Rattle.std.specs.Prelude.{ℕ, List, [], ◌∷◌, Some, None, map}
use Rattle.pb_values.specs.Name.{NameValue}
use Rattle.pb_syntax.specs.Forms.{FormValue}
use Rattle.pb_syntax.specs.Exprs.{ExprTree, bare}
use Rattle.pb_syntax.specs.declared.tree.statement.StmtText.{StmtText}
use Rattle.pb_syntax.specs.declared.tree.statement.StmtText.TheOpen.{StmtText-F}
use Rattle.pb_syntax.specs.declared.tree.statement.StmtText.TheFolds.{fold-StmtText}

mutual
  pub data StmtTree : Type 0 where
    let_number : ℕ → NameValue → ExprTree → StmtTree
    let_matrix : ℕ → NameValue → List FormValue → StmtTree
    assign : NameValue → ExprTree → StmtTree
    call_stmt : List NameValue → NameValue → List ExprTree → StmtTree
    assign_cell : NameValue → List ExprTree → ExprTree → StmtTree
    if_stmt : ℕ → ExprTree → StmtTrees → StmtTree
    if_else : ℕ → ExprTree → StmtTrees → StmtTrees → StmtTree
    for_stmt : ℕ → NameValue → ExprTree → ExprTree → StmtTrees → StmtTree

  pub data StmtTrees : Type 0 where
    no_stmts : StmtTrees
    a_stmt : StmtTree → StmtTrees → StmtTrees

abbrev pub stmts : List StmtTree → StmtTrees
stmts [] = no_stmts
stmts (s ∷ rest) = a_stmt s (stmts rest)

abbrev pub bare_stmt_step : StmtText-F StmtTree → StmtTree
bare_stmt_step (StmtText-F.Let at name value) = let_number at name (bare value)
bare_stmt_step (StmtText-F.LetMatrix at name dims) = let_matrix at name dims.items
bare_stmt_step (StmtText-F.Assign target value) = assign target (bare value)
bare_stmt_step (StmtText-F.Call targets called arguments) = call_stmt targets.items called (map bare arguments.items)
bare_stmt_step (StmtText-F.AssignCell target coordinates value) = assign_cell target (map bare coordinates.items) (bare value)
bare_stmt_step (StmtText-F.If at test then None) = if_stmt at (bare test) (stmts then.items)
bare_stmt_step (StmtText-F.If at test then (Some otherwise)) = if_else at (bare test) (stmts then.items) (stmts otherwise.items)
bare_stmt_step (StmtText-F.For at name start end body) = for_stmt at name (bare start) (bare end) (stmts body.items)

-- a statement without pointers
abbrev pub bare_stmt : StmtText → StmtTree
bare_stmt = fold-StmtText StmtTree bare_stmt_step
