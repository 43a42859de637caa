-- When the cells of a step of an unrolled run can be made.
use Rattle.std.specs.Prelude.{◌≡◌, ◌≤◌, ℕ, List, [], length, Some, slice_get}
use Rattle.std.specs.List.{flat_map}
use Rattle.pb_values.specs.Cells.{Turn}
use Rattle.pb_check.specs.Accepting.{AcceptedValue}
use Rattle.pb_frame.specs.Frames.{JobValue}
use Rattle.pb_views.specs.Seats.{seat_cells}
use Rattle.pb_walk.specs.Walks.{walk_of}
use Rattle.pb_steps.specs.Values.{InstanceValue}
use Rattle.pb_steps.specs.declared.step.Step.{Step}
use Rattle.pb_steps.specs.declared.step.Step.TheVariants as step
use Rattle.pb_jobs.specs.declared.room.Rooms.{Rooms}
use Rattle.pb_run_work.specs.Copies.{IsCopy}
use Rattle.pb_run_work.specs.Seen.{CanRunJob, PiecesValue, SightValue}
use Rattle.pb_run_work.specs.Traps.{AreNumbers, IsLeft}

-- what is held of an instance, by its number
pub record HasSight (sights : List SightValue) (m : ℕ) (P : SightValue → Type 0) : Type 0 where
  pub sight : SightValue
  pub is_sight : slice_get sights m ≡ Some sight
  pub is : P sight

-- the job with this number of the instance with that number
pub record CanRunJobAt (a : AcceptedValue) (instances : List InstanceValue) (q : PiecesValue) (rooms : Rooms) (turn : Turn) (m j : ℕ) (s : SightValue) : Type 0 where
  pub value : InstanceValue
  pub there : slice_get instances m ≡ Some value
  pub job : JobValue
  pub has : slice_get value.jobs j ≡ Some job
  pub can : CanRunJob a value job s q rooms turn

-- a job can be made; or what is copied is told, and its places have room; or all that is left are traps
abbrev pub CanRunStep : AcceptedValue → List InstanceValue → List SightValue → PiecesValue → Rooms → ℕ → Turn → Step → Type 0
CanRunStep a instances sights q rooms room turn (step.Job m j) = HasSight sights m (λ s. CanRunJobAt a instances q rooms turn m j s)
CanRunStep a instances sights q rooms room turn (step.Copy x) = HasSight sights x.instance (λ s. IsCopy s.views x.corner x.source (walk_of [] q.parts) turn × (length q.parts ≤ room))
CanRunStep a instances sights q rooms room turn (step.Trap f) = IsLeft f.trap (flat_map seat_cells f.seats) turn × AreNumbers (flat_map seat_cells f.seats)
