-- A run of a transform as contracts see it, and what it stands for.
use Rattle.std.specs.Prelude.{◌≡◌, ◌≤◌, ℕ, List, ◌++◌, length, map, Some, slice_get}
use Rattle.std.specs.List.{All, AllZip}
use Rattle.pb_linear.specs.Sizes.{sizes_of}
use Rattle.pb_linear.specs.declared.sizes.Sizes.{Sizes}
use Rattle.pb_values.specs.declared.view.View.{View}
use Rattle.pb_program.specs.Configs.{ConfigValue}
use Rattle.pb_program.specs.Transforms.{TransformValue}
use Rattle.pb_program.specs.Trees.{ProgTransform, bare_prog, bare_transform}
use Rattle.pb_matrix.specs.Value.{MatrixValue}
use Rattle.pb_model.specs.Calls.{Outcomes}
use Rattle.pb_calls.specs.Given.{AreGiven}
use Rattle.pb_check.specs.Accepting.{AcceptedValue}
use Rattle.pb_check.specs.Orders.{AnalysisValue}
use Rattle.pb_frame.specs.Frames.{JobValue}
use Rattle.pb_frame.specs.declared.part.FramePart.{FramePart}
use Rattle.pb_graph.specs.Nodes.{NodeValue}
use Rattle.pb_plan.specs.Boxes.{spot_of}
use Rattle.pb_taskgraph.specs.Graphs.{GraphValue}
use Rattle.pb_taskgraph.specs.Plans.{IsSmall, Plan}
use Rattle.pb_views.specs.Layouts.{AreInARow, HasShortSides}
use Rattle.pb_steps.specs.Handed.{AreFew}
use Rattle.pb_recursion.specs.Depths.{call_at, sides_of_matrix, sizes_given}
use Rattle.pb_steps.specs.Handed.{IsEntered}
use Rattle.pb_steps.specs.Handed.{run_matrices}
use Rattle.pb_steps.specs.Handed.{Step}
use Rattle.pb_steps.specs.Handed.{unrolled_run}
use Rattle.pb_run_graph.specs.Handed.{AreTasksOf, IsWithinLimits, plan_of_run, run_graph}
use Rattle.pb_steps.specs.Runs.{UnrolledValue}
use Rattle.pb_steps.specs.Stands.{AreSeated, AreSteps, AreViewsOf, met_of}
use Rattle.pb_steps.specs.Values.{InstanceValue}
use Rattle.pb_steps.specs.declared.step.Step.{Step as StepValue}
use Rattle.pb_steps.specs.declared.step.Step.TheVariants as step
use Rattle.pb_jobs.specs.Rooms.{HasRoomForJob, rooms_of}
use Rattle.pb_jobs.specs.Shown.{AreRuleWindows}
use Rattle.pb_jobs.specs.declared.room.Rooms.{Rooms}
use Rattle.pb_run_work.specs.Given.{given_as}
use Rattle.pb_run_work.specs.Limits.{counted, run_steps}
use Rattle.pb_run_work.specs.Seen.{PiecesValue, SightValue, job_as}
use Rattle.pb_run_work.specs.declared.steps.StepScratch.{StepScratch}

pub record RunValue : Type 0 where
  pub accepted : AcceptedValue
  pub config : ConfigValue
  pub grain : ℕ
  pub depth : ℕ
  pub number : ℕ
  pub transform : TransformValue
  pub sizes : Sizes
  pub inputs : List MatrixValue
  pub views : List View
  pub unrolled : UnrolledValue
  pub graph : GraphValue
  pub sights : List SightValue
  pub pieces : List PiecesValue
  pub rooms : Rooms

-- ---- what it stands for
abbrev pub prog_of : RunValue → List ProgTransform
prog_of r = bare_prog r.accepted.program

abbrev pub of_transform : RunValue → ProgTransform
of_transform r = bare_transform r.transform

abbrev pub of_sizes : RunValue → List ℕ
of_sizes r = sizes_of r.sizes

abbrev pub ins_of : RunValue → List Outcomes
ins_of r = given_as r.inputs

-- the matrices of all its calls, after those that are given
abbrev pub all_of : RunValue → List Outcomes
all_of r = run_matrices (prog_of r) r.accepted.found r.config r.grain r.depth r.number (ins_of r)

-- those of its first call: the ones that are given, and the ones that it makes
abbrev pub first_call : RunValue → List Outcomes
first_call r = ins_of r ++ call_at (prog_of r) r.config r.depth r.number (ins_of r)

abbrev pub steps_of : RunValue → List Step
steps_of r = run_steps (prog_of r) r.accepted.found r.config r.grain r.depth r.number (ins_of r)

unfoldable pub run_plan : RunValue → Plan
run_plan r = plan_of_run (ins_of r) (all_of r) (steps_of r) r.graph.tasks

-- ---- what is held of it
-- of an instance: its matrices as views of cells, and the views of its rules
pub record IsSight (a : AcceptedValue) (v : InstanceValue) (s : SightValue) : Type 0 where
  pub transform : TransformValue
  pub there : slice_get a.program.transforms v.transform ≡ Some transform
  pub views : AreViewsOf transform.matrices v.seats s.views
  pub windows : AreRuleWindows (sizes_of v.sizes) (bare_transform transform).rules s.windows

-- of the instance with this number, with what is found of its transform
pub record IsOf (a : AcceptedValue) (instances : List InstanceValue) (m : ℕ) (P : InstanceValue → AnalysisValue → Type 0) : Type 0 where
  pub value : InstanceValue
  pub there : slice_get instances m ≡ Some value
  pub found : AnalysisValue
  pub is_found : slice_get a.found value.transform ≡ Some found
  pub is : P value found

-- of its job with this number
pub record OfJob (v : InstanceValue) (j : ℕ) (P : JobValue → Type 0) : Type 0 where
  pub job : JobValue
  pub there : slice_get v.jobs j ≡ Some job
  pub is : P job

-- the rectangles of a job in the matrices of its instance, with their rules
pub record AreJobPieces (nodes : List NodeValue) (job : JobValue) (q : PiecesValue) : Type 0 where
  pub parts : q.parts ≡ map (spot_of nodes) job.parts
  pub rules : q.rules ≡ map (λ (part : FramePart). part.rule) job.parts

module _ (a : AcceptedValue) (instances : List InstanceValue) where
  -- the rectangles of a step in the matrices of its instance, with their rules
  abbrev pub ArePieces : StepValue → PiecesValue → Type 0
  ArePieces (step.Job m j) q = IsOf a instances m (λ v found. OfJob v j (λ job. AreJobPieces found.nodes job q))
  ArePieces (step.Copy x) q = IsOf a instances x.instance (λ v found. q.parts ≡ map (spot_of found.nodes) x.parts)
  ArePieces (step.Trap f) q = Unit {0}

  -- there is so much room for a step
  abbrev pub HasRoomForStep : Rooms → StepValue → Type 0
  HasRoomForStep rooms (step.Job m j) = IsOf a instances m (λ v found. OfJob v j (λ job. HasRoomForJob (bare_prog a.program) v.transform (sizes_of v.sizes) rooms (job_as found job)))
  HasRoomForStep rooms (step.Copy x) = length x.parts ≤ rooms.pieces
  HasRoomForStep rooms (step.Trap f) = Unit {0}

-- a scratch has this room
pub record FitsRooms (rooms : Rooms) (s : StepScratch) : Type 0 where
  pub jobs : rooms_of s.jobs ≡ rooms
  pub copies : s.copies.room ≡ rooms.pieces

abbrev pub fits_run : RunValue → StepScratch → Type 0
fits_run r s = FitsRooms r.rooms s

-- ---- its facts
-- of a transform, by its number, that these matrices enter: steps and a graph are those of the run, which is within its limits
pub record IsBegun (a : AcceptedValue) (config : ConfigValue) (grain depth number : ℕ) (ins : List Outcomes) (u : UnrolledValue) (g : GraphValue) : Type 0 where
  pub entered : IsEntered (bare_prog a.program) a.found config number ins
  pub small : All (λ (m : Outcomes). All IsSmall m.cells) ins
  pub counts : AreFew (counted (bare_prog a.program) a.found config grain depth number ins)
  pub within : IsWithinLimits (run_matrices (bare_prog a.program) a.found config grain depth number ins) (run_steps (bare_prog a.program) a.found config grain depth number ins)
  pub steps : AreSteps (bare_prog a.program) a.found u (run_steps (bare_prog a.program) a.found config grain depth number ins)
  pub met : met_of u.met ≡ (unrolled_run (bare_prog a.program) a.found config grain depth number (map sides_of_matrix ins)).next
  pub seated : AreSeated a config grain u.instances
  pub tasks : AreTasksOf (run_steps (bare_prog a.program) a.found config grain depth number ins) g.tasks
  pub graph : g ≡ run_graph ins (run_matrices (bare_prog a.program) a.found config grain depth number ins) (run_steps (bare_prog a.program) a.found config grain depth number ins) g.tasks

pub record IsRunning (r : RunValue) : Type 0 where
  pub begun : IsBegun r.accepted r.config r.grain r.depth r.number (ins_of r) r.unrolled r.graph
  pub there : slice_get r.accepted.program.transforms r.number ≡ Some r.transform
  pub given : AreGiven (of_transform r) (of_sizes r) (ins_of r)
  pub sizes : sizes_given (of_transform r) (ins_of r) ≡ of_sizes r
  pub short : All (HasShortSides (of_sizes r)) r.transform.matrices
  pub row : AreInARow 0 (of_sizes r) r.transform.matrices r.views
  pub sights : AllZip (IsSight r.accepted) r.unrolled.instances r.sights
  pub pieces : AllZip (ArePieces r.accepted r.unrolled.instances) r.unrolled.steps r.pieces
  pub rooms : All (HasRoomForStep r.accepted r.unrolled.instances r.rooms) r.unrolled.steps
