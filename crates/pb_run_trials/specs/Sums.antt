-- A row of cells, each but the first two the sum of the two before it, made two by two.
use Rattle.std.specs.Prelude.{◌≡◌, ℕ, zero, suc, ◌+◌, ◌*◌, ◌<◌, ◌≤◌, ℤ, ◌+ℤ◌, List, [], ◌∷◌, length, slice_index_or, Result, Ok, Err, FitsSigned, nat_lt, if◌then◌else◌}
use Rattle.std.specs.Int.{w64}
use Rattle.pb_values.specs.declared.outcome.Kind.{Kind}
use Rattle.pb_values.specs.declared.outcome.Outcome.{Outcome}
use Rattle.pb_values.specs.declared.outcome.Outcome.TheVariants.{Value, Trapped}
use Rattle.pb_values.specs.Checked.{checked_result}
use Rattle.pb_taskgraph.specs.Graphs.{GraphValue, TaskValue, cells_of, task_cells}
use Rattle.pb_taskgraph.specs.Plans.{Plan}

-- a number, or the trap that takes its place
abbrev pub outcome_from : Result ℤ Kind → Outcome
outcome_from (Ok z) = Value z
outcome_from (Err kind) = Trapped (record { kind = kind; transform = 0; rule = 0; x = 0; y = 0 })

-- the sum of two outcomes, or the first trap
abbrev pub sum_of : Outcome → Outcome → Outcome
sum_of (Value x) (Value y) = outcome_from (checked_result (x +ℤ y))
sum_of (Value x) (Trapped t) = Trapped t
sum_of (Trapped t) second = Trapped t

-- so many outcomes, from the first two on
abbrev pub sums : Outcome → Outcome → ℕ → List Outcome
sums a b zero = []
sums a b (suc n) = a ∷ sums b (sum_of a b) n

-- the task before, and the task after
abbrev pub one_before : ℕ → List ℕ
one_before zero = []
one_before (suc t) = t ∷ []

abbrev pub one_after : ℕ → ℕ → List ℕ
one_after n t = if nat_lt (t + 1) n then (t + 1) ∷ [] else []

-- a task by number, among so many
pub record IsStep (n t : ℕ) (task : TaskValue) : Type 0 where
  pub cells : task_cells task ≡ (2 * t + 2) ∷ (2 * t + 3) ∷ []
  pub before : task.before ≡ one_before t
  pub after : task.after ≡ one_after n t

-- the graph of so many tasks
pub record IsRow (n : ℕ) (g : GraphValue) : Type 0 where
  pub few : n ≤ 1000
  pub inputs : g.inputs ≡ 2
  pub cells : g.cells ≡ 2 * n + 2
  pub tasks : length g.tasks ≡ n
  pub steps : (t : ℕ) (d : TaskValue) → t < n → IsStep n t (slice_index_or g.tasks t d)

-- a row with its first two numbers
pub record SumsValue : Type 0 where
  pub graph : GraphValue
  pub first : ℤ
  pub second : ℤ

-- what it stands for: each task writes its cells by number
unfoldable pub plan_of : SumsValue → Plan
plan_of w = record { graph = w.graph; solution = sums (Value w.first) (Value w.second) w.graph.cells; order = cells_of w.graph }

-- its facts
pub record AreSums (w : SumsValue) : Type 0 where
  pub row : IsRow (length w.graph.tasks) w.graph
  pub first : FitsSigned w64 w.first
  pub second : FitsSigned w64 w.second
