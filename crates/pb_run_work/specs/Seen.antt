-- The instances and jobs of an unrolled run, as those see them who make their cells.
use Rattle.std.specs.Prelude.{ℕ, ◌<◌, List, length, ◌≡◌, Some, map, slice_get}
use Rattle.pb_linear.specs.Sizes.{sizes_of}
use Rattle.pb_links.specs.declared.places.Spot.{Spot}
use Rattle.pb_values.specs.Cells.{Turn}
use Rattle.pb_values.specs.declared.view.View.{View}
use Rattle.pb_program.specs.Transforms.{ProgValue, TransformValue}
use Rattle.pb_program.specs.Trees.{bare_prog}
use Rattle.pb_graph.specs.Layerings.{steps_at}
use Rattle.pb_check.specs.Accepting.{AcceptedValue}
use Rattle.pb_check.specs.Orders.{AnalysisValue}
use Rattle.pb_frame.specs.Frames.{JobValue}
use Rattle.pb_plan.specs.Boxes.{spot_of}
use Rattle.pb_steps.specs.Stands.{AreViewsOf}
use Rattle.pb_steps.specs.Values.{InstanceValue}
use Rattle.pb_jobs.specs.Instances.{InstanceValue as Instance, IsReady, of_transform}
use Rattle.pb_jobs.specs.Jobs.{CanBeMade, JobValue as Job}
use Rattle.pb_jobs.specs.Rooms.{HasRoomForJob}
use Rattle.pb_jobs.specs.Shown.{WindowsValue}
use Rattle.pb_jobs.specs.declared.room.Rooms.{Rooms}

-- an instance of a program is seen so: with its transform, its sizes, and its matrices as views of the cells where they stand
pub record IsSeenAs (p : ProgValue) (v : InstanceValue) (seen : Instance) : Type 0 where
  pub program : seen.program ≡ p
  pub number : seen.number ≡ v.transform
  pub transform : slice_get (bare_prog p) v.transform ≡ Some (of_transform seen)
  pub sizes : seen.sizes ≡ v.sizes
  pub views : AreViewsOf (of_transform seen).matrices v.seats seen.views

-- a job, over what is found of its transform
abbrev pub job_as : AnalysisValue → JobValue → Job
job_as found job = record { parts = map (spot_of found.nodes) job.parts; rule = job.rule; rules = map (λ part. part.rule) job.parts; steps = steps_at found.order.layers job.layer }

-- ---- what is held of instances and jobs
pub record SightValue : Type 0 where
  pub views : List View
  pub windows : List WindowsValue

pub record PiecesValue : Type 0 where
  pub parts : List Spot
  pub rules : List ℕ

-- an instance of a transform, seen so
abbrev pub seen_by : ProgValue → TransformValue → InstanceValue → SightValue → Instance
seen_by p t v s = record { program = p; number = v.transform; transform = t; sizes = v.sizes; views = s.views; windows = s.windows }

-- a job with these rectangles
abbrev pub made_of : AnalysisValue → JobValue → PiecesValue → Job
made_of found job q = record { parts = q.parts; rule = job.rule; rules = q.rules; steps = steps_at found.order.layers job.layer }

-- the cells of a job can be made from this turn on, where there is so much room
pub record CanRunJob (a : AcceptedValue) (v : InstanceValue) (job : JobValue) (s : SightValue) (q : PiecesValue) (rooms : Rooms) (turn : Turn) : Type 0 where
  pub transform : TransformValue
  pub there : slice_get a.program.transforms v.transform ≡ Some transform
  pub found : AnalysisValue
  pub is_found : slice_get a.found v.transform ≡ Some found
  pub layer : job.layer < length found.order.layers
  pub ready : IsReady (seen_by a.program transform v s)
  pub can : CanBeMade (seen_by a.program transform v s) (made_of found job q) turn
  pub room : HasRoomForJob (bare_prog a.program) v.transform (sizes_of v.sizes) rooms (made_of found job q)
