-- Definitions of the crates below, handed on: who stands on the graph of a run need not name them.
pub use Rattle.pb_run_plan.specs.RunTasks.{AreTasksOf, IsWithinLimits, run_graph}
unfoldable pub use Rattle.pb_run_plan.specs.RunTasks.{plan_of_run, step_order}
pub use Rattle.pb_steps.specs.Runs.{UnrolledValue}
pub use Rattle.pb_steps.specs.Stands.{AreSeated, AreSteps, met_of}
pub use Rattle.pb_steps.specs.Handed.{IsEntered}
pub use Rattle.pb_steps.specs.Handed.{total}
pub use Rattle.pb_steps.specs.Handed.{Step, places_of}
pub use Rattle.pb_steps.specs.Handed.{unrolled_run}
