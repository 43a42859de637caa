use Rattle.std.proofs.Common.{◌≡◌, map, take}
use Rattle.pb_recursion.specs.Depths.{sides_of_matrix}
use Rattle.pb_run_work.specs.Given.{given_as}
use Rattle.pb_run_work.proofs.unrolled.sides_of.Given as goal

abbrev pub invariant-loop-matrix : goal.invariant-loop-matrix
invariant-loop-matrix l = l.sides.items ≡ map sides_of_matrix (given_as (take l.matrix-index l.inputs))
