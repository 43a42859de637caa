-- An instance with the graph of its tasks, and why there is none.
use Rattle.std.specs.Prelude.{◌≡◌, ℕ, ◌<◌, ◌≤◌, List, length, map}
use Rattle.std.specs.List.{All}
use Rattle.pb_linear.specs.Sizes.{sizes_of}
use Rattle.pb_linear.specs.declared.sizes.Sizes.{Sizes}
use Rattle.pb_linear.specs.declared.sizes.TheConstants.{SIZE_TOP}
use Rattle.pb_syntax.specs.declared.limits.TheConstants.{MOST_MATRICES}
use Rattle.pb_values.specs.declared.view.View.{View}
use Rattle.pb_graph.specs.Nodes.{NodeValue}
use Rattle.pb_program.specs.Configs.{ConfigValue}
use Rattle.pb_program.specs.Trees.{ProgTransform}
use Rattle.pb_check.specs.Orders.{AnalysisValue}
use Rattle.pb_frame.specs.Frames.{FrameValue, JobValue}
use Rattle.pb_links.specs.Links.{link_count}
use Rattle.pb_links.specs.Spots.{AllWithin, PlacesValue}
use Rattle.pb_links.specs.declared.refusal.LinksRefusal.{LinksRefusal}
use Rattle.pb_links.specs.declared.refusal.LinksRefusal.TheVariants as links
use Rattle.pb_taskgraph.specs.Graphs.{GraphValue, IsGraph, TaskValue}
use Rattle.pb_taskgraph.specs.declared.limits.TheConstants.{MOST_LINKS, MOST_TASKS}
use Rattle.pb_plan.specs.Boxes.{places_of}
use Rattle.pb_plan.specs.Made.{jobs_for}
use Rattle.pb_plan.specs.Laid.{HasRoom, IsLaid, LaidValue}
use Rattle.pb_plan.specs.Tasks.{AreTasks, IsWithinLimits, LiesInView, graph_of}
use Rattle.pb_plan.specs.declared.refusal.PlanRefusal.{PlanRefusal}
use Rattle.pb_plan.specs.declared.refusal.PlanRefusal.TheVariants.{Links, Memory, Tasks}

pub record PlannedValue : Type 0 where
  pub laid : LaidValue
  pub graph : GraphValue

-- the instance is laid out, these are its tasks, and this is their graph
pub record IsPlanned (config : ConfigValue) (number : ℕ) (s : Sizes) (grain : ℕ) (t : ProgTransform) (a : AnalysisValue) (p : PlannedValue) : Type 0 where
  pub laid : IsLaid config number s grain t a p.laid
  pub tasks : AreTasks t a.nodes (sizes_of s) p.laid.views p.laid.frame.jobs p.graph.tasks
  pub graph : p.graph ≡ graph_of t (sizes_of s) p.graph.tasks
  pub within : IsWithinLimits t a.nodes (sizes_of s) p.laid.frame.jobs

-- there are more tasks than a run may have; or there are not, but more links
abbrev pub IsTooMany : List JobValue → List PlacesValue → PlanRefusal → Type 0
IsTooMany jobs places Tasks = MOST_TASKS < length jobs
IsTooMany jobs places Links = (length jobs ≤ MOST_TASKS) × (MOST_LINKS < link_count places)
IsTooMany jobs places Memory = ⊥

-- of the jobs of an instance
abbrev pub IsTooLarge : ConfigValue → ℕ → Sizes → ℕ → ProgTransform → AnalysisValue → PlanRefusal → Type 0
IsTooLarge config number s grain t a e = IsTooMany (jobs_for config number t a (sizes_of s) grain) (map (places_of t a.nodes (sizes_of s)) (jobs_for config number t a (sizes_of s) grain)) e

-- why links are refused is why a plan is
abbrev pub of_links : LinksRefusal → PlanRefusal
of_links links.TooMany = Links
of_links links.Memory = Memory

-- ---- what is known of an instance, its matrices and the places of its jobs before tasks are made
pub record IsReady (t : ProgTransform) (nodes : List NodeValue) (f : FrameValue) (views : List View) (places : List PlacesValue) : Type 0 where
  pub sizes : All (λ size. size ≤ SIZE_TOP) f.sizes.of
  pub room : HasRoom (sizes_of f.sizes) t
  pub few : length t.matrices ≤ MOST_MATRICES
  pub inputs : t.inputs ≤ length t.matrices
  pub are_places : places ≡ map (places_of t nodes (sizes_of f.sizes)) f.jobs
  pub bases : All (AllWithin (length t.matrices)) places
  pub parts : All (λ (job : JobValue). All (LiesInView t nodes views) job.parts) f.jobs
  pub graph : (tasks : List TaskValue) → AreTasks t nodes (sizes_of f.sizes) views f.jobs tasks → IsWithinLimits t nodes (sizes_of f.sizes) f.jobs → IsGraph (graph_of t (sizes_of f.sizes) tasks)
