-- What a reader of cells tells.
use Rattle.std.specs.Prelude.{◌≡◌, ℕ, Bool, true, false, IsTrue, List, Option, Some, None, is_some}
use Rattle.pb_values.specs.declared.outcome.Outcome.{Outcome}
use Rattle.pb_values.specs.declared.outcome.Outcome.TheVariants.{Value, Trapped}
use Rattle.pb_values.specs.declared.outcome.Trap.{Trap}

-- The outcomes of the cells that may be read, as a map from their numbers. Who makes cells also tells the task whose turn
-- it is, and the cells that it is still to write, in order, with their outcomes.
pub record Turn : Type 0 where
  pub task : ℕ
  pub outcomes : ℕ → Option Outcome
  pub left : List (ℕ × Outcome)

-- whether a number is told of a cell
abbrev pub is_number : Option Outcome → Bool
is_number (Some (Value n)) = true
is_number _ = false

-- of each cell of which something is told, it is a number
abbrev pub HasNoTrap : Turn → Type 0
HasNoTrap turn = (cell : ℕ) → IsTrue (is_some (turn.outcomes cell)) → IsTrue (is_number (turn.outcomes cell))

-- the trap that is told of a cell, if it is no number
abbrev pub TellsTrap : Option Outcome → Option Trap → Type 0
TellsTrap told None = IsTrue (is_number told)
TellsTrap told (Some t) = told ≡ Some (Trapped t)
