-- The jobs of an instance, and the cells that they make.
use Rattle.std.specs.Prelude.{◌≡◌, ◌⊎◌, ℕ, List, map, None, Some, slice_get}
use Rattle.std.specs.List.{Contains, enumerate_from, flat_map}
use Rattle.pb_graph.specs.Nodes.{NodeValue}
use Rattle.pb_graph.specs.Ranks.{Rank}
use Rattle.pb_program.specs.Configs.{ConfigValue}
use Rattle.pb_program.specs.Trees.{ProgTransform}
use Rattle.pb_model.specs.Cells.{Cell}
use Rattle.pb_check.specs.Orders.{AnalysisValue}
use Rattle.pb_check.specs.Ranked.{HasRank, StandsBelow}
use Rattle.pb_frame.specs.Frames.{HoldsCell, JobValue, in_layer, layer_jobs, parts_of}
use Rattle.pb_frame.specs.declared.part.FramePart.{FramePart}
use Rattle.pb_links.specs.Links.{predecessors}
use Rattle.pb_plan.specs.Boxes.{places_of}

-- the jobs of an instance, layer by layer
abbrev pub jobs_for : ConfigValue → ℕ → ProgTransform → AnalysisValue → List ℕ → ℕ → List JobValue
jobs_for config number t a sizes grain = flat_map (λ l. layer_jobs t grain (in_layer a.order (parts_of config number t sizes a.nodes) l.0) l) (enumerate_from 0 a.order.layers)

-- a part of a job, by the numbers of both, holds a cell
pub record IsMadeBy (jobs : List JobValue) (nodes : List NodeValue) (c : Cell) (j k : ℕ) : Type 0 where
  pub job : JobValue
  pub is : slice_get jobs j ≡ Some job
  pub part : FramePart
  pub has : slice_get job.parts k ≡ Some part
  pub holds : HoldsCell nodes part c

-- what a cell that job j makes reads is made by a predecessor of it; or by the job itself, which then is a block, and before the cell
pub record IsMadeBefore (t : ProgTransform) (a : AnalysisValue) (sizes : List ℕ) (jobs : List JobValue) (c shown : Cell) (j : ℕ) : Type 0 where
  pub job : ℕ
  pub part : ℕ
  pub made : IsMadeBy jobs a.nodes shown job part
  pub before : Contains (predecessors (map (places_of t a.nodes sizes) jobs) j) job
      ⊎ ((job ≡ j) × (made.job.rule ≡ None) × ((rank : Rank) → HasRank t a sizes c rank → StandsBelow t a sizes rank shown))
