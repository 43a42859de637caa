-- The outcomes of all cells, while tasks are run by number.
use Rattle.std.specs.Prelude.{◌≡◌, ℕ, ◌<◌, List, Some, drop, length, slice_get}
use Rattle.std.specs.List.{Contains}
use Rattle.pb_values.specs.declared.outcome.Outcome.{Outcome}
use Rattle.pb_values.specs.Cells.{Turn}
use Rattle.pb_taskgraph.specs.Graphs.{cells_of}
use Rattle.pb_taskgraph.specs.Plans.{IsPlan, Plan, outcome_at}
use Rattle.pb_taskgraph.specs.Runs.{TellsInputs}
use Rattle.pb_taskgraph.specs.Turns.{entries_of}

-- the input cells and those of the first tasks have the solution's outcomes
pub record IsWritten (p : Plan) (t : ℕ) (outcomes : List Outcome) : Type 0 where
  pub size : length outcomes ≡ p.graph.cells
  pub inputs : TellsInputs p (slice_get outcomes)
  pub tasks : (u c : ℕ) → u < t → Contains (cells_of p.graph u) c → slice_get outcomes c ≡ Some (outcome_at p.solution c)

-- a port that keeps the outcomes of all cells: its task, how many cells of the task are written, and the outcomes
pub record SerialValue : Type 0 where
  pub task : ℕ
  pub written : ℕ
  pub outcomes : List Outcome

-- what it tells
unfoldable pub serial_turn : Plan → SerialValue → Turn
serial_turn p port = record { task = port.task; outcomes = slice_get port.outcomes; left = drop port.written (entries_of p.solution (p.order port.task)) }

-- it is a port of a task of the plan
pub record IsPort (p : Plan) (t : ℕ) (outcomes : List Outcome) : Type 0 where
  pub plan : IsPlan p
  pub task : t < length p.graph.tasks
  pub size : length outcomes ≡ p.graph.cells
