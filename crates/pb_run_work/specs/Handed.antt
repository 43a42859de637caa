-- Definitions of the crates below, handed on: who stands on a run need not name them.
pub use Rattle.pb_run_graph.specs.Handed.{AreTasksOf, run_graph}
unfoldable pub use Rattle.pb_run_graph.specs.Handed.{plan_of_run}
pub use Rattle.pb_steps.specs.Handed.{Below, below_at, jobs_matrices, matrices_by, run_matrices}
unfoldable pub use Rattle.pb_steps.specs.Handed.{matrices_at}
pub use Rattle.pb_steps.specs.Handed.{Step, places_of}
pub use Rattle.pb_steps.specs.Handed.{AreFew, AreMany, MOST_CALLS}
