use Rattle.std.proofs.Common.{◌≡◌, take}
use Rattle.pb_steps.specs.Handed.{total}
use Rattle.pb_run_work.specs.Given.{given_as}
use Rattle.pb_run_work.proofs.unrolled.count_cells.Given as goal

abbrev pub invariant-loop-matrix : goal.invariant-loop-matrix
invariant-loop-matrix l = l.cells ≡ total (given_as (take l.matrix-index l.inputs))
