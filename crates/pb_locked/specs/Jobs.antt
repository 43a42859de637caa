-- What a worker keeps of the task that it runs.
use Rattle.std.specs.Prelude.{◌≡◌, ℕ, ◌<◌, ◌⊎◌, pos, length, slice_index, slice_index_or, take, List}
use Rattle.std.specs.List.{Contains}
use Rattle.pb_values.specs.declared.outcome.Outcome.{Outcome}
use Rattle.pb_values.specs.declared.outcome.Outcome.TheVariants.{Value}
use Rattle.pb_values.specs.Cells.{Turn}
use Rattle.pb_taskgraph.specs.Graphs.{before_of, cells_of}
use Rattle.pb_taskgraph.specs.Known.{known_turn}
use Rattle.pb_taskgraph.specs.Plans.{IsPlan, Plan, outcome_at}
use Rattle.pb_locked.specs.Places.{HasPlaces, PlacesValue}

-- a task, and how many of its cells are written
pub record JobValue : Type 0 where
  pub task : ℕ
  pub written : ℕ

-- what it may read has the solution's outcome
unfoldable pub job_turn : Plan → JobValue → Turn
job_turn p job = known_turn p job.task job.written

-- the outcomes of the cells that are written stand at the places of these cells
pub record IsJob (p : Plan) (v : PlacesValue) (t k : ℕ) (values : List Outcome) : Type 0 where
  pub plan : IsPlan p
  pub table : HasPlaces p.graph (length p.graph.tasks) v
  pub task : t < length p.graph.tasks
  pub room : length values ≡ length (cells_of p.graph t)
  pub written : (i : ℕ) → i < length (cells_of p.graph t) → Contains (take k (p.order t)) (slice_index (cells_of p.graph t) i)
      → slice_index_or values i (Value (pos 0)) ≡ outcome_at p.solution (slice_index (cells_of p.graph t) i)

-- a cell that others make: an input cell, or one of a predecessor
abbrev pub IsOthers : Plan → ℕ → ℕ → Type 0
IsOthers p t c = (c < p.graph.inputs) ⊎ ((u : ℕ) × Contains (before_of p.graph t) u × Contains (cells_of p.graph u) c)

-- an answer to each cell that others make is the solution's outcome
abbrev pub TellsOthers : Plan → ℕ → (ℕ → Type 0) → (ℕ → Outcome → Type 0) → Type 0
TellsOthers p t Asks Answers = (c : ℕ) → IsOthers p t c → Asks c × ((v : Outcome) → Answers c v → v ≡ outcome_at p.solution c)
