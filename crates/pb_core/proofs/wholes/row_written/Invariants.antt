use Rattle.std.proofs.Common.{◌≡◌, ◌<◌, ℕ, get_or, false, true}
use Rattle.pb_values.specs.Views.{cell_of}
use Rattle.pb_core.proofs.wholes.row_written.Given as goal

abbrev pub invariant-loop-x : goal.invariant-loop-x
invariant-loop-x l = (k : ℕ) → k < l.x → get_or l.written (cell_of l.view k l.y) false ≡ true
