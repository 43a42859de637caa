-- What can be seen of a state while hands are at work.
use Rattle.std.specs.Prelude.{◌≡◌, ℕ, ◌+◌, ◌<◌, ◌≤◌, ◌==◌, ◌&&◌, ◌⊎◌, Bool, true, false, not, is_some, is_none, length, Option, Some, IsSome}
use Rattle.std.specs.List.{Contains, list_any}
use Rattle.pb_values.specs.declared.outcome.Outcome.{Outcome}
use Rattle.pb_taskgraph.specs.Graphs.{GraphValue, after_of, before_of, cells_of}
use Rattle.pb_taskgraph.specs.Plans.{Plan, outcome_at}
use Rattle.pb_core.specs.States.{State, counted}

-- Each task's count, the finished tasks with their numbers and how many they are, the releases that finished tasks still
-- owe, and the written cells with their outcomes. Hands, starts and gives are forgotten.
pub record Snapshot : Type 0 where
  pub count : ℕ → ℕ
  pub number : ℕ → Option ℕ
  pub finished : ℕ
  pub owed : ℕ → ℕ → Bool
  pub value : ℕ → Option Outcome

-- whether a finished task still owes a release to another
abbrev pub owes : GraphValue → State → ℕ → ℕ → Bool
owes g s u t = is_some (s.number u) && list_any (λ next. next == t) (after_of g u) && not (s.released u t)

-- the snapshot of a state
abbrev pub snapshot_of : GraphValue → State → Snapshot
snapshot_of g s = record { count = s.count; number = s.number; finished = s.finished; owed = owes g s; value = s.value }

pub record IsSoundSnapshot (p : Plan) (q : Snapshot) : Type 0 where
  -- the numbers of the finished tasks are those below their number, each once; each predecessor of a finished task is
  -- finished with a smaller number and owes it no release
  pub tasks : (t : ℕ) → IsSome (q.number t) → t < length p.graph.tasks
  pub below : (t n : ℕ) → q.number t ≡ Some n → n < q.finished
  pub drawn : (n : ℕ) → n < q.finished → (t : ℕ) × (q.number t ≡ Some n)
  pub once : (t u n : ℕ) → q.number t ≡ Some n → q.number u ≡ Some n → t ≡ u
  pub after : (t u n : ℕ) → Contains (before_of p.graph t) u → q.number t ≡ Some n → (m : ℕ) × (q.number u ≡ Some m) × (m < n) × (q.owed u t ≡ false)
  -- a task's count is its unfinished predecessors plus the releases owed to it
  pub counts : (t : ℕ) → t < length p.graph.tasks
      → q.count t ≡ counted (λ u. is_none (q.number u)) (before_of p.graph t) + counted (λ u. q.owed u t) (before_of p.graph t)
  -- every cell of a finished task is written, and a written cell past the inputs belongs to a finished task or to one
  -- whose count is 0
  pub whole : (t c : ℕ) → IsSome (q.number t) → Contains (cells_of p.graph t) c → IsSome (q.value c)
  pub begun : (c : ℕ) → IsSome (q.value c) → p.graph.inputs ≤ c → (t : ℕ) × Contains (cells_of p.graph t) c × (IsSome (q.number t) ⊎ (q.count t ≡ 0))
  -- a written cell has the solution's outcome, and every input cell is written
  pub right : (c : ℕ) (v : Outcome) → q.value c ≡ Some v → v ≡ outcome_at p.solution c
  pub inputs : (c : ℕ) → c < p.graph.inputs → IsSome (q.value c)
  -- each owed release goes from a finished task to one of its successors
  pub owed : (u t : ℕ) → q.owed u t ≡ true → IsSome (q.number u) × Contains (after_of p.graph u) t

-- a state shows a snapshot: the counts of tasks, the numbers, the owed releases and the outcomes are the same
pub record Shows (p : Plan) (s : State) (q : Snapshot) : Type 0 where
  pub count : (t : ℕ) → t < length p.graph.tasks → s.count t ≡ q.count t
  pub number : (t : ℕ) → s.number t ≡ q.number t
  pub finished : s.finished ≡ q.finished
  pub owed : (u t : ℕ) → owes p.graph s u t ≡ q.owed u t
  pub value : (c : ℕ) → s.value c ≡ q.value c
