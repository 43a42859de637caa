-- The tasks of an instance, one for each job.
use Rattle.std.specs.Prelude.{◌≡◌, ℕ, ◌+◌, ◌-◌, ◌≤◌, List, length, map, Option, Some, None, slice_get, take}
use Rattle.std.specs.List.{AllZip}
use Rattle.pb_values.specs.Views.{FitsInto, Shows, cell_of}
use Rattle.pb_values.specs.declared.view.View.{View}
use Rattle.pb_graph.specs.Nodes.{NodeValue}
use Rattle.pb_program.specs.Forms.{DeclValue}
use Rattle.pb_program.specs.Trees.{ProgTransform}
use Rattle.pb_frame.specs.Frames.{JobValue}
use Rattle.pb_frame.specs.declared.part.FramePart.{FramePart}
use Rattle.pb_links.specs.Links.{LinksValue, all_predecessors, all_successors, link_count, predecessors, successors}
use Rattle.pb_taskgraph.specs.Graphs.{GraphValue, TaskValue}
use Rattle.pb_taskgraph.specs.declared.limits.TheConstants.{MOST_CELLS, MOST_LINKS, MOST_TASKS}
use Rattle.pb_taskgraph.specs.declared.task.Part.{Part}
use Rattle.pb_taskgraph.specs.declared.task.TaskKind.{TaskKind}
use Rattle.pb_taskgraph.specs.declared.task.TaskKind.TheVariants.{Block, Wide}
use Rattle.pb_plan.specs.Boxes.{places_of}
use Rattle.pb_views.specs.Layouts.{cell_count}

-- the segment of a part is there, and its matrix, as one of these views; and the part lies in it
pub record LiesInView (t : ProgTransform) (nodes : List NodeValue) (views : List View) (part : FramePart) : Type 0 where
  pub node : NodeValue
  pub there : slice_get nodes part.node ≡ Some node
  pub decl : DeclValue
  pub declared : slice_get t.matrices node.matrix ≡ Some decl
  pub view : View
  pub at : slice_get views node.matrix ≡ Some view
  pub fits : FitsInto view.shape part.rect

-- the places of a rectangle of a segment's matrix, with the matrix's name and the cells there
pub record IsPartFor (t : ProgTransform) (nodes : List NodeValue) (views : List View) (from : FramePart) (part : Part) : Type 0 where
  pub node : NodeValue
  pub there : slice_get nodes from.node ≡ Some node
  pub decl : DeclValue
  pub declared : slice_get t.matrices node.matrix ≡ Some decl
  pub view : View
  pub at : slice_get views node.matrix ≡ Some view
  pub name : part.name ≡ decl.name
  pub rect : part.rect ≡ from.rect
  pub cells : Shows part.view (record { dims = view.shape.dims; w = from.rect.x1 - from.rect.x0; h = from.rect.y1 - from.rect.y0 }) (λ x y. cell_of view (from.rect.x0 + x) (from.rect.y0 + y))

-- a job that makes its cells one by one is a block
abbrev pub kind_for : Option ℕ → TaskKind
kind_for None = Block
kind_for (Some k) = Wide

module _ (t : ProgTransform) (nodes : List NodeValue) (sizes : List ℕ) (views : List View) (jobs : List JobValue) where
  -- the task of the job with this number, in the call with the number 0
  pub record IsTaskFor (j : ℕ) (job : JobValue) (task : TaskValue) : Type 0 where
    pub call : task.call ≡ 0
    pub kind : task.kind ≡ kind_for job.rule
    pub parts : AllZip (IsPartFor t nodes views) job.parts task.parts
    pub before : task.before ≡ predecessors (map (places_of t nodes sizes) jobs) j
    pub after : task.after ≡ successors (map (places_of t nodes sizes) jobs) j

  -- there is one for each job
  pub record AreTasks (tasks : List TaskValue) : Type 0 where
    pub count : length tasks ≡ length jobs
    pub each : (j : ℕ) (job : JobValue) (task : TaskValue) → slice_get jobs j ≡ Some job → slice_get tasks j ≡ Some task → IsTaskFor j job task

-- the links of jobs, by their places
abbrev pub AreLinks : ProgTransform → List NodeValue → List ℕ → List JobValue → LinksValue → Type 0
AreLinks t nodes sizes jobs links = links ≡ record { before = all_predecessors (map (places_of t nodes sizes) jobs); after = all_successors (map (places_of t nodes sizes) jobs) }

-- the graph of an instance whose matrices stand in a row from cell 0 on, those that are given first
abbrev pub graph_of : ProgTransform → List ℕ → List TaskValue → GraphValue
graph_of t sizes tasks = record { inputs = cell_count sizes (take t.inputs t.matrices); cells = cell_count sizes t.matrices; tasks = tasks }

-- it is within the limits of a run
pub record IsWithinLimits (t : ProgTransform) (nodes : List NodeValue) (sizes : List ℕ) (jobs : List JobValue) : Type 0 where
  pub cells : cell_count sizes t.matrices ≤ MOST_CELLS
  pub tasks : length jobs ≤ MOST_TASKS
  pub links : link_count (map (places_of t nodes sizes) jobs) ≤ MOST_LINKS
