-- The port of a Job.
use Rattle.std.specs.Prelude.{◌≡◌, ℕ, ◌≤◌, Bool, IsTrue, length}
use Rattle.atomic_table.specs.Seated.{TableId}
use Rattle.pb_values.specs.Cells.{HasNoTrap, Turn}
use Rattle.pb_taskgraph.specs.Known.{known_turn}
use Rattle.pb_taskgraph.specs.Plans.{Plan}
use Rattle.pb_cells.specs.Handles.{JobValue, new_job, turn_at}
use Rattle.pb_cells.specs.Views.{untouched}

-- a task, and how many of its cells are written
pub record PortValue : Type 0 where
  pub task : ℕ
  pub written : ℕ

abbrev pub port_of : ℕ → ℕ → PortValue
port_of t k = record { task = t; written = k }

-- what it tells: what the task may read by now has the solution's outcome
unfoldable pub port_turn : Plan → PortValue → Turn
port_turn p port = known_turn p port.task port.written

-- a Job of a task of which only the first cells are written, so many; and one of which all are
abbrev pub first_written : TableId → ℕ → ℕ → JobValue
first_written table t k = record (new_job table t) { at = record (untouched t) { written = k } }

abbrev pub wholly_written : Plan → TableId → ℕ → JobValue
wholly_written p table t = first_written table t (length (p.order t))

-- its Job is of the table that has the name, and is not further than its cells; if it knows so, no cell of which it tells is trapped
pub record IsPort (p : Plan) (name cells : TableId) (v : JobValue) (untrapped : Bool) : Type 0 where
  pub table : cells ≡ name
  pub job : v ≡ first_written name v.at.task v.at.written
  pub few : v.at.written ≤ length (p.order v.at.task)
  pub known : IsTrue untrapped → HasNoTrap (turn_at p v.at)
