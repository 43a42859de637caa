-- States of the machine between the steps of a pool under one lock.
use Rattle.std.specs.Prelude.{◌≡◌, ℕ, ◌<◌, ◌≤◌, ◌==◌, ◌++◌, true, false, List, [], ◌∷◌, length, map, Option, Some, None, IsSome, Result, Ok, Err, if◌then◌else◌, ◌⊎◌, nat_eq}
use Rattle.std.specs.List.{Contains}
use Rattle.pb_values.specs.declared.outcome.Outcome.{Outcome}
use Rattle.pb_taskgraph.specs.Graphs.{after_of, cells_of}
use Rattle.pb_taskgraph.specs.Plans.{Plan, outcome_at}
use Rattle.pb_core.specs.declared.event.Event.{Event}
use Rattle.pb_core.specs.declared.event.Event.TheVariants.{Finish, Give, Release, Start, Write}
use Rattle.pb_core.specs.declared.event.NotEnabled.{NotEnabled}
use Rattle.pb_core.specs.States.{State}
use Rattle.pb_core.specs.Events.{IsReached, all_happen}
use Rattle.pb_core.specs.Cores.{CoreValue, state_of}

-- a task is ready: it isn't started, and waits for no release
abbrev pub IsReady : Plan → State → ℕ → Type 0
IsReady p s t = (t < length p.graph.tasks) × (s.runner t ≡ None) × (s.count t ≡ 0)

-- a hand has started a task, which isn't finished
abbrev pub HasBegun : State → ℕ → ℕ → Type 0
HasBegun s hand t = (s.runner t ≡ Some hand) × (s.number t ≡ None)

-- Events lead to the state; no unstarted task was given, no unfinished task has a written cell, and no finished task owes a
-- release.
pub record IsBoard (p : Plan) (s : State) : Type 0 where
  pub reached : IsReached p s
  pub ungiven : (t : ℕ) → s.runner t ≡ None → s.given t ≡ false
  pub empty : (t c : ℕ) → s.number t ≡ None → Contains (cells_of p.graph t) c → s.value c ≡ None
  pub paid : (u t : ℕ) → IsSome (s.number u) → Contains (after_of p.graph u) t → s.released u t ≡ true

-- the events by which a hand takes a task: its Start, after a Give where another hand holds it
abbrev pub taken_from : Option ℕ → ℕ → ℕ → List Event
taken_from None hand t = Start hand t ∷ []
taken_from (Some holder) hand t = if holder == hand then Start hand t ∷ [] else Give holder hand t ∷ (Start hand t ∷ [])

-- a hand's Writes of cells, and its Releases of the successors of a task
abbrev pub writes_by : ℕ → List ℕ → List Event
writes_by hand cells = map (λ c. Write hand c) cells

abbrev pub releases_by : ℕ → ℕ → List ℕ → List Event
releases_by hand t nexts = map (λ next. Release hand t next) nexts

-- the events by which it completes a task: its Writes in its own order, its Finish, and its Releases
abbrev pub completed_by : Plan → ℕ → ℕ → List Event
completed_by p hand t = writes_by hand (p.order t) ++ (Finish hand t ∷ releases_by hand t (after_of p.graph t))

-- the outcomes of cells in the solution
abbrev pub outcomes_of : Plan → List ℕ → List Outcome
outcomes_of p cells = map (λ c. outcome_at p.solution c) cells

-- the ready task of least number; None where no task is ready
abbrev pub FindsReady : Plan → State → Option ℕ → Type 0
FindsReady p s (Some t) = IsReady p s t × ((u : ℕ) → IsReady p s u → t ≤ u)
FindsReady p s None = (u : ℕ) → IsReady p s u → ⊥

-- a hand and a task that it has begun; None where there is none
abbrev pub FindsBegun : State → Option (ℕ × ℕ) → Type 0
FindsBegun s (Some found) = HasBegun s found.0 found.1
FindsBegun s None = (hand t : ℕ) → HasBegun s hand t → ⊥

-- another hand that holds a task; None where there is none
abbrev pub HoldsOther : Option ℕ → ℕ → Option ℕ → Type 0
HoldsOther held hand (Some holder) = (held ≡ Some holder) × (nat_eq holder hand ≡ false)
HoldsOther held hand None = (held ≡ None) ⊎ (held ≡ Some hand)

-- the ready task of least number is taken; None where no task is ready, and then nothing changes
abbrev pub Takes : Plan → CoreValue → ℕ → Option ℕ → CoreValue → Type 0
Takes p old hand (Some t) new =
    FindsReady p (state_of p old) (Some t) × (state_of p new ≡ all_happen p (state_of p old) (taken_from ((state_of p old).holder t) hand t))
Takes p old hand None new = FindsReady p (state_of p old) None × (new ≡ old)

-- a task that the hand has begun is completed; where it hasn't begun it, nothing changes
abbrev pub Completes : Plan → CoreValue → ℕ → ℕ → Result (Unit {0}) NotEnabled → CoreValue → Type 0
Completes p old hand t (Ok done) new = HasBegun (state_of p old) hand t × (state_of p new ≡ all_happen p (state_of p old) (completed_by p hand t))
Completes p old hand t (Err refused) new = (HasBegun (state_of p old) hand t → ⊥) × (new ≡ old)
