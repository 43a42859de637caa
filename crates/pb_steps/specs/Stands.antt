-- What the instances and the steps of a run stand for.
use Rattle.std.specs.Prelude.{◌≡◌, ◌<◌, ◌≤◌, ◌^◌, pos, ◌≤ℤ◌, ◌==◌, ◌&&◌, ℕ, Bool, List, [], ◌++◌, Some, filter, length, map, slice_get, slice_index_or}
use Rattle.std.specs.List.{All, AllZip}
use Rattle.pb_linear.specs.Numbers.{exact_value}
use Rattle.pb_linear.specs.Sizes.{InRange, leasts_of, sizes_of}
use Rattle.pb_linear.specs.declared.sizes.TheConstants.{SIZE_TOP}
use Rattle.pb_values.specs.Views.{Shows}
use Rattle.pb_values.specs.declared.outcome.Outcome.TheVariants.{Trapped}
use Rattle.pb_values.specs.declared.rect.Rect.{Rect}
use Rattle.pb_values.specs.declared.view.View.{View}
use Rattle.pb_program.specs.Configs.{ConfigValue}
use Rattle.pb_program.specs.Forms.{DeclValue}
use Rattle.pb_program.specs.Trees.{ProgTransform, bare_prog}
use Rattle.pb_program.specs.declared.plan.Slot.{Slot}
use Rattle.pb_program.specs.declared.view.Read.{Read}
use Rattle.pb_model.specs.Cells.{natural}
use Rattle.pb_check.specs.Orders.{AnalysisValue}
use Rattle.pb_check.specs.Accepting.{AcceptedValue}
use Rattle.pb_frame.specs.Frames.{JobValue, cut_by, has_place, within}
use Rattle.pb_frame.specs.declared.part.FramePart.{FramePart}
use Rattle.pb_graph.specs.Nodes.{NodeValue}
use Rattle.pb_plan.specs.Boxes.{IsReadable, spot_of, whole_box}
use Rattle.pb_plan.specs.Made.{jobs_for}
use Rattle.pb_region.specs.Small.{IsSmallRead}
use Rattle.pb_views.specs.Seats.{IsSmall, across, cell_at, down, no_seat, part_seat, sides_of_seat}
use Rattle.pb_views.specs.declared.seat.Seat.{Seat}
use Rattle.pb_counts.specs.Handed.{Copied, Instance, Step, by_copy, by_job, by_trap}
use Rattle.pb_recursion.specs.Shapes.{sizes_from}
use Rattle.pb_counts.specs.Handed.{Done, Met, Played, Unrolled, after_call, after_matrices, instance_of, own_sides, seats_from}
use Rattle.pb_steps.specs.Values.{CopiedValue, InstanceValue}
use Rattle.pb_steps.specs.Runs.{UnrolledValue}
use Rattle.pb_steps.specs.declared.met.Met.{Met as MetValue}
use Rattle.pb_steps.specs.declared.step.Step.{Step as StepValue}
use Rattle.pb_steps.specs.declared.step.Step.TheVariants as step

abbrev pub met_of : MetValue → Met
met_of m = record { calls = m.calls; matrices = m.matrices; cells = m.cells }

abbrev pub AreSmall : List (Slot × Seat) → Type 0
AreSmall names = All (λ (n : Slot × Seat). IsSmall n.1) names

-- ---- instances
-- a matrix stands where it has the sides of its declaration
pub record IsSeatFor (sizes : List ℕ) (d : DeclValue) (s : Seat) : Type 0 where
  pub width : across s ≡ natural (exact_value d.w sizes)
  pub height : down s ≡ natural (exact_value d.h sizes)

-- the transform of an instance by its number, with what is found of it, sizes in range, matrices with their sides, and its jobs
module _ (p : List ProgTransform) (found : List AnalysisValue) (config : ConfigValue) (grain : ℕ) where
  pub record IsSeated (v : InstanceValue) : Type 0 where
    pub transform : ProgTransform
    pub there : slice_get p v.transform ≡ Some transform
    pub analysis : AnalysisValue
    pub is_found : slice_get found v.transform ≡ Some analysis
    pub in_range : InRange (leasts_of transform.ranges) (sizes_of v.sizes)
    pub seats : AllZip (IsSeatFor (sizes_of v.sizes)) transform.matrices v.seats
    pub small : All IsSmall v.seats
    pub jobs : v.jobs ≡ jobs_for config v.transform transform analysis (sizes_of v.sizes) grain
    pub few : length v.jobs < 2 ^ 32

module _ (p : List ProgTransform) (found : List AnalysisValue) where
  -- it stands for an instance of the definition
  pub record IsInstance (v : InstanceValue) (i : Instance) : Type 0 where
    pub call : i.call ≡ v.call
    pub number : i.number ≡ v.transform
    pub transform : slice_get p v.transform ≡ Some i.transform
    pub analysis : slice_get found v.transform ≡ Some i.found
    pub sizes : i.sizes ≡ sizes_of v.sizes
    pub seats : i.seats ≡ v.seats

  -- ---- steps
  -- the instance with this number stands for one, and has this job
  pub record IsJobAt (instances : List InstanceValue) (k j : ℕ) (i : Instance) (job : JobValue) : Type 0 where
    pub value : InstanceValue
    pub there : slice_get instances k ≡ Some value
    pub is : IsInstance value i
    pub has : slice_get value.jobs j ≡ Some job

  -- a copy stands for a part of a job
  pub record IsCopyAt (instances : List InstanceValue) (c : CopiedValue) (i : Instance) (d : Copied) : Type 0 where
    pub job : JobValue
    pub at : IsJobAt instances c.instance c.job i job
    pub is : d ≡ record { layer = job.layer; rule = job.rule; parts = c.parts; corner = c.corner; source = c.source }

  abbrev pub IsStep : List InstanceValue → StepValue → Step → Type 0
  IsStep instances (step.Job k j) (by_job i job) = IsJobAt instances k j i job
  IsStep instances (step.Copy c) (by_copy i d) = IsCopyAt instances c i d
  IsStep instances (step.Trap f) (by_trap g) = g ≡ record { call = f.call; outcome = Trapped f.trap; targets = f.targets; first = f.first; seats = f.seats }
  IsStep instances _ _ = ⊥

  -- a list of steps has these more
  abbrev pub Appends : List InstanceValue → List StepValue → List StepValue → List Step → Type 0
  Appends instances old new steps = (before : List Step) → AllZip (IsStep instances) old before → AllZip (IsStep instances) new (before ++ steps)

  abbrev pub AreSteps : UnrolledValue → List Step → Type 0
  AreSteps u steps = AllZip (IsStep u.instances) u.steps steps

  -- a run has these steps more, and keeps its instances
  pub record Grows (old new : UnrolledValue) (steps : List Step) : Type 0 where
    pub keeps : (k : ℕ) (v : InstanceValue) → slice_get old.instances k ≡ Some v → slice_get new.instances k ≡ Some v
    pub adds : (before : List Step) → AreSteps old before → AreSteps new (before ++ steps)

  -- the instance with this number stands for one
  pub record IsInstanceAt (instances : List InstanceValue) (k : ℕ) (i : Instance) : Type 0 where
    pub value : InstanceValue
    pub there : slice_get instances k ≡ Some value
    pub is : IsInstance value i

-- a run goes on by these steps, and this is met after them
module _ (a : AcceptedValue) (config : ConfigValue) (grain : ℕ) where
  abbrev pub AreSeated : List InstanceValue → Type 0
  AreSeated instances = All (IsSeated (bare_prog a.program) a.found config grain) instances

  pub record Goes (old new : UnrolledValue) (steps : List Step) (next : Met) : Type 0 where
    pub grows : Grows (bare_prog a.program) a.found old new steps
    pub met : met_of new.met ≡ next

  abbrev pub GoesBy : UnrolledValue → UnrolledValue → Done → Type 0
  GoesBy old new d = Goes old new d.steps d.next

  abbrev pub GoesByPlay : UnrolledValue → UnrolledValue → Played → Type 0
  GoesByPlay old new d = Goes old new d.steps d.next

  abbrev pub GoesByCall : UnrolledValue → UnrolledValue → Unrolled → Type 0
  GoesByCall old new u = Goes old new u.steps u.next

  -- an instance of the transform with this number is added, with this number, where what is given stands there; and its own matrices
  pub record IsEnteredAs (t : ℕ) (given : List Seat) (old new : UnrolledValue) (number : ℕ) (own : List Seat) : Type 0 where
    pub transform : ProgTransform
    pub there : slice_get (bare_prog a.program) t ≡ Some transform
    pub analysis : AnalysisValue
    pub is_found : slice_get a.found t ≡ Some analysis
    pub value : InstanceValue
    pub at : slice_get new.instances number ≡ Some value
    pub is : IsInstance (bare_prog a.program) a.found value (instance_of t transform analysis (sizes_from transform (map sides_of_seat given)) given (met_of old.met))
    pub jobs : value.jobs ≡ jobs_for config t transform analysis (sizes_from transform (map sides_of_seat given)) grain
    pub own_is : own ≡ seats_from (after_call (met_of old.met)) (own_sides transform (sizes_from transform (map sides_of_seat given)))
    pub goes : Goes old new [] (after_matrices (after_call (met_of old.met)) (own_sides transform (sizes_from transform (map sides_of_seat given))))

-- ---- what is shown
-- views of a plan lie within the matrices of its instance
pub record CanShow (matrices : List DeclValue) (sizes : List ℕ) (views : List Read) : Type 0 where
  pub small : All IsSmallRead views
  pub there : All (λ (r : Read). r.matrix < length matrices) views
  pub readable : IsReadable matrices sizes views 0 0

-- and its matrices stand where they have their sides, which aren't negative
pub record IsShowing (matrices : List DeclValue) (v : InstanceValue) (views : List Read) : Type 0 where
  pub sizes : All (λ size. size ≤ SIZE_TOP) v.sizes.of
  pub small : All IsSmall v.seats
  pub seats : AllZip (IsSeatFor (sizes_of v.sizes)) matrices v.seats
  pub natural : (m : ℕ) (d : DeclValue) → slice_get matrices m ≡ Some d → (pos 0 ≤ℤ exact_value d.w (sizes_of v.sizes)) × (pos 0 ≤ℤ exact_value d.h (sizes_of v.sizes))
  pub can : CanShow matrices (sizes_of v.sizes) views

-- matrices that stand so, as views of cells
pub record AreViewsOf (decls : List DeclValue) (seats : List Seat) (views : List View) : Type 0 where
  pub count : length views ≡ length seats
  pub each : (k : ℕ) (d : DeclValue) (s : Seat) (v : View) → slice_get decls k ≡ Some d → slice_get seats k ≡ Some s → slice_get views k ≡ Some v
      → Shows v (record { dims = d.dims; w = across s; h = down s }) (λ x y. cell_at s x y)

-- where what a view of a plan shows stands
abbrev pub shown_seat : List DeclValue → List ℕ → List Seat → Read → Seat
shown_seat matrices sizes seats r = part_seat r.view (slice_index_or seats r.matrix no_seat) (whole_box matrices sizes r).rect

-- ---- copies
-- of some parts, what they have of a rectangle of a matrix
abbrev pub is_common : List NodeValue → ℕ → Rect → FramePart → Bool
is_common nodes matrix rect part = ((spot_of nodes part).base == matrix) && has_place (cut_by rect part.rect)

abbrev pub common_parts : List NodeValue → ℕ → Rect → List FramePart → List FramePart
common_parts nodes matrix rect parts = map (within rect) (filter (is_common nodes matrix rect) parts)
