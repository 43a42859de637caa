use Rattle.std.proofs.Common.{◌≡◌, ◌<◌, ℕ, get_or, true}
use Rattle.pb_taskgraph.specs.declared.task.Part.{Part}
use Rattle.pb_values.specs.Views.{view_cells}
use Rattle.pb_core.specs.Cores.{TellsWritten}
use Rattle.pb_core.proofs.wholes.parts_written.Given as goal

abbrev pub invariant-loop-part : goal.invariant-loop-part
invariant-loop-part l = (k : ℕ) (part : Part) → k < l.part-index → part ≡ get_or l.parts k part → TellsWritten l.written (view_cells part.view) true
