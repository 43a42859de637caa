-- The matrix that a statement declares, as it is held.
use Rattle.std.specs.Prelude.{ℕ, List}
use Rattle.pb_syntax.specs.declared.tree.statement.StmtText.{StmtText}
use Rattle.pb_syntax.specs.Stmts.{bare_stmt}
use Rattle.pb_syntax.specs.WithinLimits.{StmtWithin}
use Rattle.pb_program.specs.declared.meaning.Meaning.{Meaning}
use Rattle.pb_program.specs.Forms.{DeclValue}
use Rattle.pb_names.specs.Rules.{local_of}

unfoldable pub local_in : List (List ℕ × Meaning) → StmtText → List DeclValue
local_in names s = local_of names (bare_stmt s)

unfoldable pub IsWithin : StmtText → Type 0
IsWithin s = StmtWithin 1 (bare_stmt s)
