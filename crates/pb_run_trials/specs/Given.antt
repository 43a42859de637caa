-- Outcomes that are given: after the input cells, one task makes one cell, and a second, which waits for it, all others.
use Rattle.std.specs.Prelude.{◌≡◌, ℕ, ◌+◌, ◌≤◌, zero, suc, List, [], ◌∷◌, length}
use Rattle.std.specs.List.{AllByRecursion, range_with_len}
use Rattle.pb_values.specs.declared.outcome.Outcome.{Outcome}
use Rattle.pb_taskgraph.specs.declared.limits.TheConstants.{MOST_CELLS}
use Rattle.pb_taskgraph.specs.Graphs.{GraphValue, TaskValue, cells_of, task_cells}
use Rattle.pb_taskgraph.specs.Plans.{IsSmall, Plan}

-- a task of so many cells from the first on, with these links
pub record IsPiece (first width : ℕ) (earlier later : List ℕ) (task : TaskValue) : Type 0 where
  pub cells : task_cells task ≡ range_with_len first width
  pub before : task.before ≡ earlier
  pub after : task.after ≡ later

-- how many cells a task makes, where the second makes so many
abbrev pub width_of : ℕ → ℕ → ℕ
width_of others zero = 1
width_of others (suc t) = others

-- the graph of the two tasks
pub record IsSplit (others : ℕ) (g : GraphValue) : Type 0 where
  pub cells : g.cells ≡ g.inputs + 1 + others
  pub few : g.cells ≤ MOST_CELLS
  pub one : TaskValue
  pub two : TaskValue
  pub tasks : g.tasks ≡ one ∷ two ∷ []
  pub one_is : IsPiece g.inputs 1 [] (1 ∷ []) one
  pub two_is : IsPiece (g.inputs + 1) others (0 ∷ []) [] two

pub record GivenValue : Type 0 where
  pub graph : GraphValue
  pub outcomes : List Outcome

-- what it stands for: each task writes its cells by number
unfoldable pub given_plan : GivenValue → Plan
given_plan w = record { graph = w.graph; solution = w.outcomes; order = cells_of w.graph }

-- its facts
pub record IsGiven (w : GivenValue) : Type 0 where
  pub others : ℕ
  pub split : IsSplit others w.graph
  pub size : length w.outcomes ≡ w.graph.cells
  pub small : AllByRecursion IsSmall w.outcomes
