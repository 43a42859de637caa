-- What a run of an instance stands for: the graph of its tasks, the outcomes of its cells, and the order in which each task
-- writes its cells.
use Rattle.std.specs.Prelude.{◌≢◌, ℕ, List, [], ◌++◌, map, Option, Some, None, slice_index_or}
use Rattle.std.specs.List.{All, flat_map}
use Rattle.pb_linear.specs.declared.boxes.Step.{Step}
use Rattle.pb_values.specs.declared.outcome.Outcome.{Outcome}
use Rattle.pb_values.specs.declared.view.View.{View}
use Rattle.pb_graph.specs.Layerings.{LayerValue, steps_at}
use Rattle.pb_graph.specs.Nodes.{NodeValue}
use Rattle.pb_program.specs.declared.rule.RuleKind.TheVariants as kind
use Rattle.pb_program.specs.Configs.{ConfigValue, IsValid}
use Rattle.pb_program.specs.Trees.{ProgRule, ProgTransform}
use Rattle.pb_model.specs.Calls.{Outcomes, Plans, call_of}
use Rattle.pb_model.specs.Cells.{Cell}
use Rattle.pb_frame.specs.Handed.{AreGiven}
use Rattle.pb_check.specs.Orders.{AnalysisValue}
use Rattle.pb_frame.specs.Choices.{IsInstance}
use Rattle.pb_frame.specs.Frames.{JobValue}
use Rattle.pb_taskgraph.specs.Graphs.{TaskValue}
use Rattle.pb_taskgraph.specs.Plans.{IsSmall, Plan}
use Rattle.pb_plan.specs.Boxes.{spot_of}
use Rattle.pb_plan.specs.Made.{jobs_for}
use Rattle.pb_views.specs.Layouts.{AreInARow}
use Rattle.pb_views.specs.Windows.{number_in}
use Rattle.pb_walk.specs.Walks.{walk_of}
use Rattle.pb_walk.specs.declared.stop.Stop.{Stop}
use Rattle.pb_plan.specs.Laid.{HasRoom}
use Rattle.pb_plan.specs.Tasks.{AreTasks, IsWithinLimits, graph_of}

-- ---- the order of a task
-- the cell at a stop of a walk
abbrev pub stop_cell : Stop → Cell
stop_cell s = record { matrix = s.base; x = s.x; y = s.y }

-- the list by which a job goes through its cells: its layer's, where it makes them one by one; or none, and then they go by
-- number
abbrev pub steps_by : List LayerValue → ℕ → Option ℕ → List Step
steps_by layers layer None = steps_at layers layer
steps_by layers layer (Some k) = []

module _ (nodes : List NodeValue) (layers : List LayerValue) where
  -- the places of a job, one after another
  abbrev pub stops_of : JobValue → List Stop
  stops_of job = walk_of (steps_by layers job.layer job.rule) (map (spot_of nodes) job.parts)

  -- the cells of a job by number, in this order
  abbrev pub job_order : List View → JobValue → List ℕ
  job_order views job = map (λ s. number_in views (stop_cell s)) (stops_of job)

  -- those of the job with a number; past the jobs there are none
  unfoldable pub own_order : List View → List JobValue → ℕ → List ℕ
  own_order views jobs j = slice_index_or (map (job_order views) jobs) j []

-- ---- the outcomes of all cells
-- matrix after matrix, each row by row
unfoldable pub outcomes_of : List Outcomes → List Outcome
outcomes_of ms = flat_map (λ m. m.cells) ms

-- the matrices of a call: those that are given, and those that it makes
abbrev pub all_matrices : ConfigValue → Plans → ℕ → ProgTransform → List ℕ → List Outcomes → List Outcomes
all_matrices config plans number t sizes ins = ins ++ call_of config plans number t sizes ins

-- ---- a run
-- a valid configuration, what plans make of their cells, a transform with its number and what is found of it, sizes, the
-- matrices that are given, all matrices as views of cells, and the tasks
module _ (config : ConfigValue) (plans : Plans) (number : ℕ) (t : ProgTransform) (a : AnalysisValue) (sizes : List ℕ) (grain : ℕ) (ins : List Outcomes) (views : List View) (tasks : List TaskValue) where
  -- its outcomes are those of the given matrices, and of those that the call makes
  unfoldable pub plan_of : Plan
  plan_of = record {
    graph = graph_of t sizes tasks;
    solution = outcomes_of (all_matrices config plans number t sizes ins);
    order = own_order a.nodes a.order.layers views (jobs_for config number t a sizes grain);
  }

  -- it is of an accepted program and sizes in range, its matrices are given as declared and stand in a row, its tasks are those
  -- of the instance, all within the limits of a run; and none of its rules calls a transform
  pub record IsRun : Type 0 where
    pub instance : IsInstance number t a sizes
    pub valid : IsValid instance.program config
    pub given : AreGiven t sizes ins
    pub small : All (λ (m : Outcomes). All IsSmall m.cells) ins
    pub room : HasRoom sizes t
    pub row : AreInARow 0 sizes t.matrices views
    pub are_tasks : AreTasks t a.nodes sizes views (jobs_for config number t a sizes grain) tasks
    pub within : IsWithinLimits t a.nodes sizes (jobs_for config number t a sizes grain)
    pub computes : All (λ (r : ProgRule). r.kind ≢ kind.Plan) t.rules
