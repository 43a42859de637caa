-- What events keep.
use Rattle.std.specs.Prelude.{◌≡◌, ℕ, ◌<◌, Bool, true, not, length, Option, Some, IsSome}
use Rattle.std.specs.List.{Contains}
use Rattle.pb_values.specs.declared.outcome.Outcome.{Outcome}
use Rattle.pb_taskgraph.specs.Graphs.{GraphValue, before_of, cells_of}
use Rattle.pb_taskgraph.specs.Plans.{Plan, outcome_at}
use Rattle.pb_core.specs.States.{State, counted}

-- a task's count is the number of predecessors that haven't released it, and only a finished task releases
pub record AreCounts (g : GraphValue) (count : ℕ → ℕ) (released : ℕ → ℕ → Bool) (number : ℕ → Option ℕ) : Type 0 where
  pub counts : (t : ℕ) → count t ≡ counted (λ u. not (released u t)) (before_of g t)
  pub releases : (u t : ℕ) → released u t ≡ true → IsSome (number u)

-- the held tasks are those that wait for no release; a started task is held, and a finished one is started
pub record AreHeld (g : GraphValue) (count : ℕ → ℕ) (holder runner number : ℕ → Option ℕ) : Type 0 where
  pub tasks : (t : ℕ) → IsSome (holder t) → (t < length g.tasks) × (count t ≡ 0)
  pub ready : (t : ℕ) → t < length g.tasks → count t ≡ 0 → IsSome (holder t)
  pub started : (t : ℕ) → IsSome (runner t) → IsSome (holder t)
  pub ended : (t : ℕ) → IsSome (number t) → IsSome (runner t)

-- input cells and those of finished tasks are written, and no others but those of started tasks; with the solution's outcomes
pub record AreWritten (p : Plan) (runner number : ℕ → Option ℕ) (value : ℕ → Option Outcome) : Type 0 where
  pub inputs : (c : ℕ) → c < p.graph.inputs → IsSome (value c)
  pub whole : (t c : ℕ) → IsSome (number t) → Contains (cells_of p.graph t) c → IsSome (value c)
  pub begun : (t c : ℕ) → IsSome (value c) → Contains (cells_of p.graph t) c → IsSome (runner t)
  pub cells : (c : ℕ) → IsSome (value c) → c < p.graph.cells
  pub right : (c : ℕ) (v : Outcome) → value c ≡ Some v → v ≡ outcome_at p.solution c

-- the finish numbers are those below the number of finished tasks, each once, and a predecessor's is smaller
pub record AreNumbers (g : GraphValue) (number : ℕ → Option ℕ) (finished : ℕ) : Type 0 where
  pub below : (t n : ℕ) → number t ≡ Some n → n < finished
  pub drawn : (n : ℕ) → n < finished → (t : ℕ) × (number t ≡ Some n)
  pub once : (t u n : ℕ) → number t ≡ Some n → number u ≡ Some n → t ≡ u
  pub after : (t u n : ℕ) → Contains (before_of g t) u → number t ≡ Some n → (m : ℕ) × (number u ≡ Some m) × (m < n)

-- the facts of a state that each enabled event keeps
pub record IsSound (p : Plan) (s : State) : Type 0 where
  pub counts : AreCounts p.graph s.count s.released s.number
  pub held : AreHeld p.graph s.count s.holder s.runner s.number
  pub written : AreWritten p s.runner s.number s.value
  pub numbers : AreNumbers p.graph s.number s.finished
