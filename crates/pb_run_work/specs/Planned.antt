-- The plan of an unrolled run, with tasks for its steps.
use Rattle.std.specs.Prelude.{ℕ, List, map}
use Rattle.pb_program.specs.Trees.{bare_prog}
use Rattle.pb_model.specs.Calls.{Outcomes}
use Rattle.pb_check.specs.Accepting.{AcceptedValue}
use Rattle.pb_taskgraph.specs.Graphs.{TaskValue}
use Rattle.pb_taskgraph.specs.Plans.{Plan}
use Rattle.pb_recursion.specs.Depths.{sides_of_matrix}
use Rattle.pb_steps.specs.Handed.{run_matrices}
use Rattle.pb_steps.specs.Handed.{Step}
use Rattle.pb_steps.specs.Handed.{unrolled_run}
use Rattle.pb_steps.specs.Runs.{UnrolledValue}
use Rattle.pb_run_graph.specs.Handed.{plan_of_run}
use Rattle.pb_run_graph.specs.Linking.{CanBeLinked}

module _ {a : AcceptedValue} {u : UnrolledValue} {inputs : ℕ} (c : CanBeLinked a u inputs) where
  -- the steps of the run and its matrices
  abbrev pub steps_for : List Step
  steps_for = (unrolled_run (bare_prog a.program) a.found c.config c.grain c.depth c.number (map sides_of_matrix c.ins)).steps

  abbrev pub matrices_for : List Outcomes
  matrices_for = run_matrices (bare_prog a.program) a.found c.config c.grain c.depth c.number c.ins

  -- its plan
  abbrev pub plan_for : List TaskValue → Plan
  plan_for tasks = plan_of_run c.ins matrices_for steps_for tasks
