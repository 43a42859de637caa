use Rattle.std.proofs.Common.{◌<◌, ℕ, true}
use Rattle.pb_values.specs.Views.{row_cells}
use Rattle.pb_core.specs.Cores.{TellsWritten}
use Rattle.pb_core.proofs.wholes.view_written.Given as goal

abbrev pub invariant-loop-y : goal.invariant-loop-y
invariant-loop-y l = (k : ℕ) → k < l.y → TellsWritten l.written (row_cells l.view k) true
