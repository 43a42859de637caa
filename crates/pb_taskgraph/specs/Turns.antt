-- What a port tells while it writes the cells of a task.
use Rattle.std.specs.Prelude.{◌≡◌, ℕ, ◌<◌, ◌==◌, ◌⊎◌, List, [], ◌∷◌, map, take, drop, Option, Some, if◌then◌else◌}
use Rattle.std.specs.List.{Contains}
use Rattle.pb_values.specs.declared.outcome.Outcome.{Outcome}
use Rattle.pb_values.specs.Cells.{Turn}
use Rattle.pb_taskgraph.specs.Graphs.{before_of, cells_of}
use Rattle.pb_taskgraph.specs.Plans.{Plan, outcome_at}

-- the outcomes with that of one cell more
abbrev pub with_outcome : (ℕ → Option Outcome) → ℕ → Outcome → ℕ → Option Outcome
with_outcome known cell v c = if c == cell then Some v else known c

-- the outcomes with those of these cells more, one after another
unfoldable pub with_outcomes : (ℕ → Option Outcome) → List (ℕ × Outcome) → ℕ → Option Outcome
with_outcomes known [] = known
with_outcomes known (entry ∷ rest) = with_outcomes (with_outcome known entry.0 entry.1) rest

-- a turn after the next cell is written
abbrev pub after_write : Turn → ℕ → Outcome → Turn
after_write turn cell v = record { task = turn.task; outcomes = with_outcome turn.outcomes cell v; left = drop 1 turn.left }

-- a turn after all its cells are written
unfoldable pub after_all : Turn → Turn
after_all turn = record { task = turn.task; outcomes = with_outcomes turn.outcomes turn.left; left = [] }

-- a turn after so many of its cells are written
unfoldable pub after_some : ℕ → Turn → Turn
after_some k turn = record { task = turn.task; outcomes = with_outcomes turn.outcomes (take k turn.left); left = drop k turn.left }

-- cells with their outcomes in a solution
abbrev pub entries_of : List Outcome → List ℕ → List (ℕ × Outcome)
entries_of solution cells = map (λ c. (c, outcome_at solution c)) cells

-- a turn of a task begins: the input cells and those of its predecessors may be read, and all its cells are to be written
pub record Begins (p : Plan) (t : ℕ) (turn : Turn) : Type 0 where
  pub task : turn.task ≡ t
  pub inputs : (c : ℕ) → c < p.graph.inputs → turn.outcomes c ≡ Some (outcome_at p.solution c)
  pub before : (u c : ℕ) → Contains (before_of p.graph t) u → Contains (cells_of p.graph u) c → turn.outcomes c ≡ Some (outcome_at p.solution c)
  pub left : turn.left ≡ entries_of p.solution (p.order t)

-- what a task may read when it has written so many of its cells: an input cell, one of a predecessor, or one of these
abbrev pub MayRead : Plan → ℕ → ℕ → ℕ → Type 0
MayRead p t k c =
    (c < p.graph.inputs)
    ⊎ (((u : ℕ) × Contains (before_of p.graph t) u × Contains (cells_of p.graph u) c)
    ⊎ Contains (take k (p.order t)) c)
