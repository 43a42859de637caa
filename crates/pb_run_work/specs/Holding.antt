-- When what is held of the instances and of the steps of a run can be made.
use Rattle.std.specs.Prelude.{◌≡◌, ◌≤◌, ◌^◌, ℕ, List, length, Some, slice_get}
use Rattle.std.specs.List.{All}
use Rattle.pb_linear.specs.Sizes.{sizes_of}
use Rattle.pb_linear.specs.declared.sizes.Sizes.{Sizes}
use Rattle.pb_linear.specs.declared.sizes.TheConstants.{SIZE_TOP}
use Rattle.pb_values.specs.declared.shape.TheConstants.{MOST_SIDE}
use Rattle.pb_program.specs.Configs.{ConfigValue}
use Rattle.pb_program.specs.Transforms.{TransformValue}
use Rattle.pb_program.specs.Trees.{bare_prog, bare_transform}
use Rattle.pb_matrix.specs.Value.{MatrixValue}
use Rattle.pb_model.specs.Calls.{Outcomes}
use Rattle.pb_calls.specs.Given.{AreGiven}
use Rattle.pb_check.specs.Accepting.{AcceptedValue}
use Rattle.pb_entry.specs.Fitting.{AreBound}
use Rattle.pb_plan.specs.Boxes.{HasNodes}
use Rattle.pb_taskgraph.specs.Plans.{IsSmall as IsSmallOutcome}
use Rattle.pb_views.specs.Layouts.{HasShortSides, cell_count}
use Rattle.pb_views.specs.Seats.{IsSmall}
use Rattle.pb_steps.specs.Handed.{AreFew}
use Rattle.pb_recursion.specs.Depths.{sizes_given}
use Rattle.pb_steps.specs.Handed.{IsEntered}
use Rattle.pb_steps.specs.Values.{InstanceValue}
use Rattle.pb_steps.specs.declared.step.Step.{Step}
use Rattle.pb_steps.specs.declared.step.Step.TheVariants as step
use Rattle.pb_jobs.specs.Rooms.{HaveNeeds}
use Rattle.pb_jobs.specs.Shown.{HasSteadyViews}
use Rattle.pb_run_work.specs.Given.{given_as}
use Rattle.pb_run_work.specs.Limits.{counted}
use Rattle.pb_run_work.specs.Running.{IsOf, OfJob}
use Rattle.pb_run_work.specs.Seen.{job_as}

-- an instance's transform is there, and the coefficients of its views are small; its sizes are, and its matrices stand
pub record CanBeSeen (a : AcceptedValue) (v : InstanceValue) : Type 0 where
  pub transform : TransformValue
  pub there : slice_get a.program.transforms v.transform ≡ Some transform
  pub steady : All HasSteadyViews transform.rules
  pub top : All (λ size. size ≤ SIZE_TOP) v.sizes.of
  pub small : All IsSmall v.seats
  pub count : length v.seats ≡ length transform.matrices

-- the segments of a step's rectangles are there, and how much room it needs can be told
abbrev pub CanBeCut : AcceptedValue → List InstanceValue → Step → Type 0
CanBeCut a instances (step.Job m j) = IsOf a instances m (λ v found. All (λ size. size ≤ SIZE_TOP) v.sizes.of
    × OfJob v j (λ job. HasNodes found.nodes job.parts × HaveNeeds (bare_prog a.program) v.transform (sizes_of v.sizes) (job_as found job)))
CanBeCut a instances (step.Copy x) = IsOf a instances x.instance (λ v found. HasNodes found.nodes x.parts)
CanBeCut a instances (step.Trap f) = Unit {0}

-- ---- what a run is begun from
-- no side is above the limit
pub record IsShort (m : MatrixValue) : Type 0 where
  pub width : m.shape.w ≤ MOST_SIDE
  pub height : m.shape.h ≤ MOST_SIDE

-- matrices enter the transform with this number, their cells are small, and the run's first counts are within their limits
pub record CanBegin (a : AcceptedValue) (config : ConfigValue) (grain depth number : ℕ) (ins : List Outcomes) : Type 0 where
  pub entered : IsEntered (bare_prog a.program) a.found config number ins
  pub small : All (λ (m : Outcomes). All IsSmallOutcome m.cells) ins
  pub few : AreFew (counted (bare_prog a.program) a.found config grain depth number ins)

-- matrices fit the transform with this number at these sizes, at which no side is above the limit
pub record AreFitted (a : AcceptedValue) (number : ℕ) (inputs : List MatrixValue) (s : Sizes) : Type 0 where
  pub transform : TransformValue
  pub there : slice_get a.program.transforms number ≡ Some transform
  pub bound : AreBound (bare_transform transform) inputs (sizes_of s)
  pub given : AreGiven (bare_transform transform) (sizes_of s) (given_as inputs)
  pub sizes : sizes_given (bare_transform transform) (given_as inputs) ≡ sizes_of s
  pub top : All (λ size. size ≤ SIZE_TOP) s.of
  pub short : All (HasShortSides (sizes_of s)) transform.matrices
  pub cells : cell_count (sizes_of s) transform.matrices ≤ 2 ^ 62
