-- The words of a table before any step.
use Rattle.std.specs.Prelude.{◌≡◌, ℕ, ◌<◌, ◌≤◌, List, length}
use Rattle.pb_taskgraph.specs.Graphs.{before_of}
use Rattle.pb_taskgraph.specs.Plans.{Plan, outcome_at}
use Rattle.pb_cells.specs.Banks.{Bank, bank_of, width}
use Rattle.pb_cells.specs.Words.{mark_of, word_of}

-- the first cells tell their outcomes, and the others aren't written
pub record AreCells (p : Plan) (first : ℕ) (b : Bank) : Type 0 where
  pub told : (c : ℕ) → c < first → (b.mark c ≡ mark_of (outcome_at p.solution c)) × (b.value c ≡ word_of (outcome_at p.solution c))
  pub blank : (c : ℕ) → first ≤ c → c < p.graph.cells → b.mark c ≡ 0

-- the first tasks wait for all their predecessors
abbrev pub AreCounts : Plan → ℕ → (ℕ → ℕ) → Type 0
AreCounts p first count = (t : ℕ) → t < first → count t ≡ length (before_of p.graph t)

-- the words of a table whose first cells tell their outcomes, and in which no task is finished or filed
pub record AreTold (p : Plan) (first : ℕ) (words : List ℕ) : Type 0 where
  pub width : length words ≡ width p.graph
  pub cells : AreCells p first (bank_of p.graph words)
  pub finish : (bank_of p.graph words).finish ≡ 0
  pub filed : (bank_of p.graph words).filed ≡ 0

-- the words of a table before any step: just the input cells are written, and each task waits for all its predecessors
pub record IsFirst (p : Plan) (words : List ℕ) : Type 0 where
  pub told : AreTold p p.graph.inputs words
  pub counts : AreCounts p (length p.graph.tasks) (bank_of p.graph words).count
