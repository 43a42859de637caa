-- Lists of expressions and statements without pointers.
use Rattle.std.specs.Prelude.{List, map}
use Rattle.pb_syntax.specs.declared.tree.expression.Operator.{Operator}
use Rattle.pb_syntax.specs.declared.tree.expression.ExprText.{ExprText}
use Rattle.pb_syntax.specs.declared.tree.statement.StmtText.{StmtText}
use Rattle.pb_syntax.specs.Exprs.{ExprTree, bare}
use Rattle.pb_syntax.specs.Stmts.{StmtTree, bare_stmt}

abbrev pub bares : List ExprText → List ExprTree
bares xs = map bare xs

abbrev pub bare_operands : List (Operator × ExprText) → List (Operator × ExprTree)
bare_operands xs = map (λ x. (x.0, bare x.1)) xs

abbrev pub bare_stmts : List StmtText → List StmtTree
bare_stmts xs = map bare_stmt xs
