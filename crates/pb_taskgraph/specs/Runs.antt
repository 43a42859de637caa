-- Runs of tasks, one after another.
use Rattle.std.specs.Prelude.{◌≡◌, ℕ, ◌<◌, List, [], ◌∷◌, Option, Some}
use Rattle.pb_values.specs.declared.outcome.Outcome.{Outcome}
use Rattle.pb_values.specs.Cells.{Turn}
use Rattle.pb_taskgraph.specs.Plans.{Plan, outcome_at}
use Rattle.pb_taskgraph.specs.Turns.{after_all, entries_of}

-- the outcomes of all cells, and the tasks in the order in which they were run
pub record FinishedValue : Type 0 where
  pub outcomes : List Outcome
  pub order : List ℕ

-- the input cells are told
abbrev pub TellsInputs : Plan → (ℕ → Option Outcome) → Type 0
TellsInputs p told = (c : ℕ) → c < p.graph.inputs → told c ≡ Some (outcome_at p.solution c)

-- the turn of a task that is to write all its cells
abbrev pub turn_of : Plan → ℕ → (ℕ → Option Outcome) → Turn
turn_of p t told = record { task = t; outcomes = told; left = entries_of p.solution (p.order t) }

-- what is told after these tasks
abbrev pub told_after : Plan → List ℕ → (ℕ → Option Outcome) → ℕ → Option Outcome
told_after p [] told = told
told_after p (t ∷ ts) told = told_after p ts (after_all (turn_of p t told)).outcomes
