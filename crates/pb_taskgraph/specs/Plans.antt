-- What a work stands for.
use Rattle.std.specs.Prelude.{◌≡◌, ℕ, ◌^◌, ◌<◌, ◌↔◌, pos, List, [], length, slice_index_or, FitsSigned}
use Rattle.std.specs.Int.{w64}
use Rattle.std.specs.List.{All, Contains}
use Rattle.pb_values.specs.declared.outcome.Outcome.{Outcome}
use Rattle.pb_values.specs.declared.outcome.Outcome.TheVariants.{Value, Trapped}
use Rattle.pb_taskgraph.specs.Graphs.{EachOnce, GraphValue, IsGraph, cells_of}

-- a graph of tasks; the solution, which has an outcome for each cell; and the order in which each task writes its cells
pub record Plan : Type 0 where
  pub graph : GraphValue
  pub solution : List Outcome
  pub order : ℕ → List ℕ

-- the outcome of a cell
unfoldable pub outcome_at : List Outcome → ℕ → Outcome
outcome_at outcomes c = slice_index_or outcomes c (Value (pos 0))

-- a number of 64 bits, or the trap of a transform, a rule and a place within these limits
abbrev pub IsSmall : Outcome → Type 0
IsSmall (Value z) = FitsSigned w64 z
IsSmall (Trapped t) = (t.transform < 64) × (t.rule < 32) × (t.x < 2 ^ 23) × (t.y < 2 ^ 23)

-- the facts of a plan
pub record IsPlan (p : Plan) : Type 0 where
  pub graph : IsGraph p.graph
  pub size : length p.solution ≡ p.graph.cells
  pub small : All IsSmall p.solution
  pub listed : (t c : ℕ) → t < length p.graph.tasks → Contains (p.order t) c ↔ Contains (cells_of p.graph t) c
  pub once : (t : ℕ) → t < length p.graph.tasks → EachOnce (p.order t)

-- a plan without cells and tasks
abbrev pub no_plan : Plan
no_plan = record { graph = record { inputs = 0; cells = 0; tasks = [] }; solution = []; order = λ t. [] }
