-- Definitions of the crates below, handed on: who stands on a run need not name the crates that it is made of.
pub use Rattle.pb_cost.specs.Costs.{cost}
pub use Rattle.pb_run_work.specs.Given.{IsWhole, given_as}
pub use Rattle.pb_run_work.specs.Handed.{AreFew, AreMany, AreTasksOf, MOST_CALLS, Step, places_of, run_graph, run_matrices}
unfoldable pub use Rattle.pb_run_work.specs.Handed.{plan_of_run}
pub use Rattle.pb_run_work.specs.Limits.{IsTooLarge, IsTooMany, IsWithin, counted, run_steps}
pub use Rattle.pb_run_work.specs.Running.{IsRunning, RunValue, of_sizes, of_transform, prog_of}
unfoldable pub use Rattle.pb_run_work.specs.Running.{run_plan}
pub use Rattle.pb_run_work.specs.Unrolled.{IsRefused, IsUnrolled}
