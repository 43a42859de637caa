-- What contracts see of a run in the code: its instances by their numbers, and its steps.
use Rattle.std.specs.Prelude.{ℕ, List}
use Rattle.pb_linear.specs.declared.sizes.Sizes.{Sizes}
use Rattle.pb_values.specs.declared.outcome.Trap.{Trap}
use Rattle.pb_frame.specs.Frames.{JobValue}
use Rattle.pb_frame.specs.declared.part.FramePart.{FramePart}
use Rattle.pb_program.specs.declared.plan.Slot.{Slot}
use Rattle.pb_views.specs.declared.seat.Seat.{Seat}
use Rattle.pb_counts.specs.Handed.{Target}

pub record InstanceValue : Type 0 where
  pub call : ℕ
  pub transform : ℕ
  pub sizes : Sizes
  pub seats : List Seat
  pub jobs : List JobValue

pub record CopiedValue : Type 0 where
  pub instance : ℕ
  pub job : ℕ
  pub parts : List FramePart
  pub corner : ℕ × ℕ
  pub source : Seat

pub record FailedValue : Type 0 where
  pub call : ℕ
  pub trap : Trap
  pub targets : List Target
  pub first : ℕ
  pub seats : List Seat

abbrev pub NamesValue : Type 0
NamesValue = List (Slot × Seat)
