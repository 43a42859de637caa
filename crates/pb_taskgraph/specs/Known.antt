-- What a port tells that keeps no outcomes: what the task may read by now has the solution's outcome.
use Rattle.std.specs.Prelude.{ℕ, ◌==◌, ◌||◌, Bool, nat_lt, drop, take, Some, None, if◌then◌else◌}
use Rattle.std.specs.List.{list_any}
use Rattle.pb_values.specs.Cells.{Turn}
use Rattle.pb_taskgraph.specs.Graphs.{before_of, cells_of}
use Rattle.pb_taskgraph.specs.Plans.{Plan, outcome_at}
use Rattle.pb_taskgraph.specs.Turns.{entries_of}

-- whether a task may read a cell when it has written so many of its cells
unfoldable pub is_known : Plan → ℕ → ℕ → ℕ → Bool
is_known p t k c =
    nat_lt c p.graph.inputs
    || list_any (λ u. list_any (λ d. d == c) (cells_of p.graph u)) (before_of p.graph t)
    || list_any (λ d. d == c) (take k (p.order t))

-- the turn of a task that has written so many of its cells
unfoldable pub known_turn : Plan → ℕ → ℕ → Turn
known_turn p t k = record {
  task = t;
  outcomes = λ c. if is_known p t k c then Some (outcome_at p.solution c) else None;
  left = drop k (entries_of p.solution (p.order t));
}
