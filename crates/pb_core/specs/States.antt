-- What tasks and cells have come to, the events of a run on several hands, and what they change.
use Rattle.std.specs.Prelude.{◌≡◌, ℕ, ◌+◌, ◌-◌, ◌%◌, ◌==◌, ◌&&◌, zero, suc, Bool, true, false, nat_lt, List, [], ◌∷◌, length, Option, Some, None, IsSome, if◌then◌else◌}
use Rattle.std.specs.List.{Contains}
use Rattle.pb_values.specs.declared.outcome.Outcome.{Outcome}
use Rattle.pb_taskgraph.specs.Graphs.{after_of, before_of, cells_of}
use Rattle.pb_taskgraph.specs.Plans.{Plan, outcome_at}
use Rattle.pb_core.specs.declared.event.Event.{Event}
use Rattle.pb_core.specs.declared.event.Event.TheVariants.{Finish, Give, Release, Start, Write}

-- what tasks and cells have come to, by their numbers
pub record State : Type 0 where
  -- how many releases a task waits for
  pub count : ℕ → ℕ
  -- the hand that holds a task, the hand that has started it, and its finish number
  pub holder : ℕ → Option ℕ
  pub runner : ℕ → Option ℕ
  pub number : ℕ → Option ℕ
  -- whether a task was given to another hand
  pub given : ℕ → Bool
  -- whether a task has released another
  pub released : ℕ → ℕ → Bool
  -- the outcomes of the written cells
  pub value : ℕ → Option Outcome
  -- how many tasks are finished
  pub finished : ℕ

-- how many numbers of a list pass a test
abbrev pub counted : (ℕ → Bool) → List ℕ → ℕ
counted test [] = 0
counted test (x ∷ xs) = (if test x then 1 else 0) + counted test xs

-- a function with another value at one number
abbrev pub with : {X : Type 0} → (ℕ → X) → ℕ → X → ℕ → X
with f n x k = if k == n then x else f k

-- An event's condition. Start: the hand holds the task, which isn't started. Write: the cell isn't written, and belongs to
-- a task that the hand has started and that isn't finished. Finish: the hand has started the task, which isn't finished,
-- and all its cells are written. Release: the hand has finished the task, which hasn't released this successor. Give: the
-- giver holds the task, which isn't started and was never given.
abbrev pub Enabled : Plan → State → Event → Type 0
Enabled p s (Start hand task) = (s.holder task ≡ Some hand) × (s.runner task ≡ None)
Enabled p s (Write hand cell) = (t : ℕ) × Contains (cells_of p.graph t) cell × (s.runner t ≡ Some hand) × (s.number t ≡ None) × (s.value cell ≡ None)
Enabled p s (Finish hand task) =
    (s.runner task ≡ Some hand) × (s.number task ≡ None) × ((c : ℕ) → Contains (cells_of p.graph task) c → IsSome (s.value c))
Enabled p s (Release hand task next) =
    IsSome (s.number task) × (s.runner task ≡ Some hand) × Contains (after_of p.graph task) next × (s.released task next ≡ false)
Enabled p s (Give giver taker task) = (s.holder task ≡ Some giver) × (s.runner task ≡ None) × (s.given task ≡ false)

-- who holds a task that waits for so many releases after a release by this hand
abbrev pub holder_at : ℕ → ℕ → Option ℕ → Option ℕ
holder_at zero hand old = Some hand
holder_at (suc n) hand old = old

-- The state after an event. A write stores the solution's outcome; a finish draws the number of tasks that were finished
-- before; a release makes the successor wait for one release less, and at 0 the hand holds it.
abbrev pub happens : Plan → State → Event → State
happens p s (Start hand task) = record s { runner = with s.runner task (Some hand) }
happens p s (Write hand cell) = record s { value = with s.value cell (Some (outcome_at p.solution cell)) }
happens p s (Finish hand task) = record s { number = with s.number task (Some s.finished); finished = s.finished + 1 }
happens p s (Release hand task next) =
    record s {
      released = with s.released task (with (s.released task) next true);
      count = with s.count next (s.count next - 1);
      holder = with s.holder next (holder_at (s.count next - 1) hand (s.holder next));
    }
happens p s (Give giver taker task) = record s { holder = with s.holder task (Some taker); given = with s.given task true }

-- the state before any event: each task without predecessors is held by the hand of its number modulo the hands, and the
-- input cells are written
abbrev pub first_state : Plan → ℕ → State
first_state p hands =
    record {
      count = λ t. length (before_of p.graph t);
      holder = λ t. if nat_lt t (length p.graph.tasks) && (length (before_of p.graph t) == 0) then Some (t % hands) else None;
      runner = λ t. None;
      number = λ t. None;
      given = λ t. false;
      released = λ u t. false;
      value = λ c. if nat_lt c p.graph.inputs then Some (outcome_at p.solution c) else None;
      finished = 0;
    }
