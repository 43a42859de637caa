-- Definitions of the crates below, handed on: who stands on runs need not name them.
pub use Rattle.pb_frame.specs.Frames.{JobValue}
pub use Rattle.pb_frame.specs.declared.part.FramePart.{FramePart}
pub use Rattle.pb_plan.specs.Made.{jobs_for}
pub use Rattle.pb_solution.specs.Solutions.{steps_by, stop_cell, stops_of}
unfoldable pub use Rattle.pb_solution.specs.Solutions.{outcomes_of}
