use Rattle.std.proofs.Common.{◌≡◌, ◌<◌, length, drop}
use Rattle.pb_taskgraph.specs.Plans.{outcome_at}
use Rattle.pb_solution.specs.Solutions.{outcomes_of}
use Rattle.pb_run_work.specs.Given.{given_as}
use Rattle.pb_run_work.proofs.inputs.input_at.Given as goal

abbrev pub invariant-loop-matrix : goal.invariant-loop-matrix
invariant-loop-matrix l =
    (outcome_at (outcomes_of (given_as (drop l.matrix-index l.inputs))) l.left ≡ outcome_at (outcomes_of (given_as l.inputs)) l.cell)
    × (l.left < length (outcomes_of (given_as (drop l.matrix-index l.inputs))))
