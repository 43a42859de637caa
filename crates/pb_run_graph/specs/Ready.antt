-- What is known of the steps of a run before their tasks are made, and what is made of each.
use Rattle.std.specs.Prelude.{◌≡◌, ◌-◌, ◌<◌, ◌≤◌, pos, ◌≤ℤ◌, ℕ, List, length, map, Some, slice_get, slice_index_or}
use Rattle.std.specs.List.{All, AllZip}
use Rattle.std.specs.Option.{option_map_or}
use Rattle.pb_linear.specs.Numbers.{exact_value}
use Rattle.pb_linear.specs.Sizes.{sizes_of}
use Rattle.pb_linear.specs.declared.sizes.Sizes.{Sizes}
use Rattle.pb_linear.specs.declared.sizes.TheConstants.{SIZE_TOP}
use Rattle.pb_values.specs.declared.outcome.Outcome.TheVariants.{Trapped}
use Rattle.pb_program.specs.Forms.{DeclValue}
use Rattle.pb_program.specs.Trees.{ProgTransform}
use Rattle.pb_check.specs.Orders.{AnalysisValue}
use Rattle.pb_frame.specs.Frames.{JobValue}
use Rattle.pb_frame.specs.declared.part.FramePart.{FramePart}
use Rattle.pb_graph.specs.Nodes.{NodeValue}
use Rattle.pb_links.specs.Links.{LinksValue}
use Rattle.pb_links.specs.Spots.{PlacesValue}
use Rattle.pb_links.specs.declared.places.Spot.{Spot}
use Rattle.pb_plan.specs.Boxes.{HasNodes, IsJob, boxes_by, spot_of}
use Rattle.pb_taskgraph.specs.Graphs.{TaskValue}
use Rattle.pb_taskgraph.specs.declared.task.Part.{Part}
use Rattle.pb_views.specs.Seats.{IsSmall, LiesWithin, no_seat, spot_at}
use Rattle.pb_views.specs.declared.seat.Seat.{Seat}
use Rattle.pb_steps.specs.Handed.{Failed, Step, from_corner}
use Rattle.pb_steps.specs.Handed.{no_target}
use Rattle.pb_run_plan.specs.RunTasks.{IsPartOf, Piece, call_of, kind_of, pieces_of}
use Rattle.pb_steps.specs.Stands.{IsSeatFor, IsStep}
use Rattle.pb_steps.specs.Values.{CopiedValue, FailedValue, InstanceValue}
use Rattle.pb_steps.specs.Runs.{UnrolledValue}
use Rattle.pb_steps.specs.declared.step.Step.{Step as StepValue}
use Rattle.pb_steps.specs.declared.step.Step.TheVariants as step

-- ---- what is made
-- a rectangle of a matrix that stands so, in the run
abbrev pub seated : List Seat → Spot → Spot
seated seats s = spot_at (slice_index_or seats s.base no_seat) s.rect

abbrev pub seated_places : List Seat → PlacesValue → PlacesValue
seated_places seats q = record { parts = map (seated seats) q.parts; boxes = map (seated seats) q.boxes }

-- what a copy makes, and what it reads
abbrev pub part_spot : List NodeValue → List Seat → FramePart → Spot
part_spot nodes seats part = seated seats (spot_of nodes part)

abbrev pub source_spot : CopiedValue → FramePart → Spot
source_spot c part = spot_at c.source (from_corner c.corner part.rect)

abbrev pub copied_places : List NodeValue → List Seat → CopiedValue → PlacesValue
copied_places nodes seats c = record { parts = map (part_spot nodes seats) c.parts; boxes = map (source_spot c) c.parts }

-- a part of a matrix that stands so, with its declaration
abbrev pub piece_in : List DeclValue → List NodeValue → List Seat → FramePart → Piece
piece_in matrices nodes seats part = record {
  name = option_map_or (λ (d : DeclValue). d.name) (slice_get matrices (spot_of nodes part).base) no_target.name;
  dims = option_map_or (λ (d : DeclValue). d.dims) (slice_get matrices (spot_of nodes part).base) 0;
  rect = part.rect;
  seat = slice_index_or seats (spot_of nodes part).base no_seat;
}

abbrev pub IsPartIn : List DeclValue → List NodeValue → List Seat → FramePart → Part → Type 0
IsPartIn matrices nodes seats part made = IsPartOf (piece_in matrices nodes seats part) made

abbrev pub failed_of : FailedValue → Failed
failed_of f = record { call = f.call; outcome = Trapped f.trap; targets = f.targets; first = f.first; seats = f.seats }

-- ---- what is known
-- a matrix with this number stands there
abbrev pub IsAmong : List Seat → Spot → Type 0
IsAmong seats s = s.base < length seats

-- the segment of a part is there, and its matrix stands there
pub record HasSeat (nodes : List NodeValue) (seats : List Seat) (part : FramePart) : Type 0 where
  pub node : NodeValue
  pub is : slice_get nodes part.node ≡ Some node
  pub there : node.matrix < length seats

-- a part lies in a matrix that is declared and stands there
pub record IsSeatedPart (matrices : List DeclValue) (nodes : List NodeValue) (seats : List Seat) (part : FramePart) : Type 0 where
  pub node : NodeValue
  pub is : slice_get nodes part.node ≡ Some node
  pub decl : DeclValue
  pub declared : slice_get matrices node.matrix ≡ Some decl
  pub seat : Seat
  pub there : slice_get seats node.matrix ≡ Some seat
  pub small : IsSmall seat
  pub lies : LiesWithin seat part.rect

-- matrices stand with their sides, which aren't negative
pub record AreStanding (matrices : List DeclValue) (seats : List Seat) (sizes : List ℕ) : Type 0 where
  pub small : All IsSmall seats
  pub sides : AllZip (IsSeatFor sizes) matrices seats
  pub natural : (m : ℕ) (d : DeclValue) → slice_get matrices m ≡ Some d → (pos 0 ≤ℤ exact_value d.w sizes) × (pos 0 ≤ℤ exact_value d.h sizes)

-- the boxes of a job can be found, at these sizes and where the matrices of its instance stand so
pub record CanPlace (t : ProgTransform) (nodes : List NodeValue) (seats : List Seat) (s : Sizes) (job : JobValue) : Type 0 where
  pub top : All (λ size. size ≤ SIZE_TOP) s.of
  pub standing : AreStanding t.matrices seats (sizes_of s)
  pub is_job : IsJob t (sizes_of s) job.rule job.parts
  pub has_nodes : HasNodes nodes job.parts
  pub parts : All (IsSeatedPart t.matrices nodes seats) job.parts
  pub spots : All (IsAmong seats) (map (spot_of nodes) job.parts)
  pub boxes : All (IsAmong seats) (boxes_by t (sizes_of s) job.rule job.parts)

-- a target of a call that can't be made, where its matrix stands
pub record IsTarget (f : FailedValue) (s : Seat) : Type 0 where
  pub small : IsSmall s
  pub first : f.first ≤ s.base
  pub below : s.base - f.first < length f.targets

module _ (p : List ProgTransform) (found : List AnalysisValue) where
  -- an instance is of a transform that is there, of which this is so
  pub record IsOfSome (v : InstanceValue) (P : ProgTransform → AnalysisValue → Type 0) : Type 0 where
    pub transform : ProgTransform
    pub there : slice_get p v.transform ≡ Some transform
    pub analysis : AnalysisValue
    pub is_found : slice_get found v.transform ≡ Some analysis
    pub is : P transform analysis

  -- the job with this number can be placed
  abbrev pub CanPlaceJob : InstanceValue → ℕ → Type 0
  CanPlaceJob v j = (job : JobValue) × (slice_get v.jobs j ≡ Some job) × IsOfSome v (λ t a. CanPlace t a.nodes v.seats v.sizes job)

  abbrev pub CanPlaceParts : InstanceValue → List FramePart → Type 0
  CanPlaceParts v parts = IsOfSome v (λ t a. All (IsSeatedPart t.matrices a.nodes v.seats) parts)

  -- of the instance with this number
  pub record OfInstance (instances : List InstanceValue) (k : ℕ) (P : InstanceValue → Type 0) : Type 0 where
    pub value : InstanceValue
    pub there : slice_get instances k ≡ Some value
    pub is : P value

  -- the places and the parts of a step can be found
  abbrev pub CanMake : List InstanceValue → StepValue → Type 0
  CanMake instances (step.Job k j) = OfInstance instances k (λ v. CanPlaceJob v j)
  CanMake instances (step.Copy c) = OfInstance instances c.instance (λ v. CanPlaceParts v c.parts)
  CanMake instances (step.Trap f) = All (IsTarget f) f.seats

  -- what is made for a step
  abbrev pub IsMadeFor : {A : Type 0} → List InstanceValue → (Step → A → Type 0) → StepValue → A → Type 0
  IsMadeFor instances P x made = (s : Step) → IsStep p found instances x s → P s made

-- ---- tasks
-- the task of a step, with these links
pub record IsTaskWith (s : Step) (waits_for frees : List ℕ) (task : TaskValue) : Type 0 where
  pub call : task.call ≡ call_of s
  pub kind : task.kind ≡ kind_of s
  pub parts : AllZip IsPartOf (pieces_of s) task.parts
  pub before : task.before ≡ waits_for
  pub after : task.after ≡ frees

module _ (p : List ProgTransform) (found : List AnalysisValue) where
  -- there are as many tasks as steps and lists of links, each with its own
  pub record AreMadeWith (u : UnrolledValue) (links : LinksValue) (tasks : List TaskValue) : Type 0 where
    pub short : length tasks ≤ length u.steps
    pub all : (length u.steps ≤ length links.before) → (length u.steps ≤ length links.after) → length u.steps ≤ length tasks
    pub each : (k : ℕ) (x : StepValue) (before after : List ℕ) (task : TaskValue) → slice_get u.steps k ≡ Some x → slice_get links.before k ≡ Some before → slice_get links.after k ≡ Some after → slice_get tasks k ≡ Some task
        → IsMadeFor p found u.instances (λ s made. IsTaskWith s before after made) x task
