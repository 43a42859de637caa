-- What the machine holds: an entry for each task, for each link and for each cell.
use Rattle.std.specs.Prelude.{◌≡◌, ℕ, ◌-◌, ◌%◌, ◌==◌, ◌<◌, Bool, true, false, List, [], ◌∷◌, length, nat_lt, replicate, slice_get, slice_index, slice_index_or, slice_set, Option, Some, None, Result, Ok, Err, if◌then◌else◌}
use Rattle.std.specs.List.{Contains}
use Rattle.pb_values.specs.declared.outcome.Outcome.{Outcome}
use Rattle.pb_taskgraph.specs.Graphs.{GraphValue, after_of, before_of, cells_of}
use Rattle.pb_taskgraph.specs.Plans.{IsPlan, Plan, outcome_at}
use Rattle.pb_core.specs.declared.event.Event.{Event}
use Rattle.pb_core.specs.declared.event.Event.TheVariants.{Release, Write}
use Rattle.pb_core.specs.declared.event.NotEnabled.{NotEnabled}
use Rattle.pb_core.specs.declared.progress.Progress.{Progress}
use Rattle.pb_core.specs.States.{Enabled, State, happens, holder_at}
use Rattle.pb_core.specs.Events.{IsReached}

-- the progress of each task, whether it has released each of its successors, which cells are written, and how many tasks
-- are finished
pub record CoreValue : Type 0 where
  pub tasks : List Progress
  pub released : List (List Bool)
  pub written : List Bool
  pub finished : ℕ

-- a task that waits for nothing, and that nobody has touched
abbrev pub untouched : Progress
untouched = record { count = 0; holder = None; runner = None; number = None; given = false }

-- the flag that stands beside a number in a list
abbrev pub flag_of : List ℕ → List Bool → ℕ → Bool
flag_of [] flags n = false
flag_of (x ∷ xs) [] n = false
flag_of (x ∷ xs) (flag ∷ flags) n = if x == n then flag else flag_of xs flags n

-- A change of one task, where it can be made; else nothing changes.
abbrev pub Changes : (Progress → Type 0) → (Progress → Progress) → ℕ → List Progress → Result (Unit {0}) NotEnabled → List Progress → Type 0
Changes Can change t old (Ok done) new = Can (slice_index_or old t untouched) × (new ≡ slice_set old t (change (slice_index_or old t untouched)))
Changes Can change t old (Err refused) new = (Can (slice_index_or old t untouched) → ⊥) × (new ≡ old)

-- a task is started by a hand
abbrev pub CanStart : ℕ → Progress → Type 0
CanStart hand at = (at.holder ≡ Some hand) × (at.runner ≡ None)

abbrev pub started : ℕ → Progress → Progress
started hand at = record at { runner = Some hand }

-- it is finished by a hand, and draws a number
abbrev pub CanFinish : ℕ → Progress → Type 0
CanFinish hand at = (at.runner ≡ Some hand) × (at.number ≡ None)

abbrev pub ended : ℕ → Progress → Progress
ended number at = record at { number = Some number }

-- it is given to another hand
abbrev pub CanGive : ℕ → Progress → Type 0
CanGive giver at = (at.holder ≡ Some giver) × (at.runner ≡ None) × (at.given ≡ false)

abbrev pub handed : ℕ → Progress → Progress
handed taker at = record at { holder = Some taker; given = true }

-- it is released by a hand
abbrev pub freed : ℕ → Progress → Progress
freed hand at = record at { count = at.count - 1; holder = holder_at (at.count - 1) hand at.holder }

-- a task with these predecessors before any event
abbrev pub progress_at : List ℕ → ℕ → ℕ → Progress
progress_at before hands t = record { count = length before; holder = if length before == 0 then Some (t % hands) else None; runner = None; number = None; given = false }

abbrev pub first_progress : GraphValue → ℕ → ℕ → Progress
first_progress g hands t = progress_at (before_of g t) hands t

-- the flags of the links of a task before any event
abbrev pub first_flags : GraphValue → ℕ → List Bool
first_flags g t = replicate (length (after_of g t)) false

-- the outcome of a cell is told
abbrev pub IsTold : Plan → List Outcome → ℕ → Type 0
IsTold p outcomes c = slice_get outcomes c ≡ Some (outcome_at p.solution c)

-- just the input cells are written
pub record AreInputs (inputs cells : ℕ) (written : List Bool) : Type 0 where
  pub room : length written ≡ cells
  pub each : (c : ℕ) → slice_index_or written c false ≡ nat_lt c inputs

-- the outcomes of the input cells are told
pub record TellInputs (p : Plan) (outcomes : List Outcome) : Type 0 where
  pub room : length outcomes ≡ p.graph.cells
  pub inputs : (c : ℕ) → c < p.graph.inputs → IsTold p outcomes c

-- whether all these cells are written
abbrev pub TellsWritten : List Bool → List ℕ → Bool → Type 0
TellsWritten written cells true = (c : ℕ) → Contains cells c → slice_index_or written c false ≡ true
TellsWritten written cells false = (c : ℕ) × Contains cells c × (slice_index_or written c false ≡ false)

-- the state that is held
unfoldable pub state_of : Plan → CoreValue → State
state_of p v =
    record {
      count = λ t. (slice_index_or v.tasks t untouched).count;
      holder = λ t. (slice_index_or v.tasks t untouched).holder;
      runner = λ t. (slice_index_or v.tasks t untouched).runner;
      number = λ t. (slice_index_or v.tasks t untouched).number;
      given = λ t. (slice_index_or v.tasks t untouched).given;
      released = λ t. flag_of (after_of p.graph t) (slice_index_or v.released t []);
      value = λ c. if slice_index_or v.written c false then Some (outcome_at p.solution c) else None;
      finished = v.finished;
    }

-- an entry for each task, link and cell, and a state that events lead to
pub record IsCore (p : Plan) (v : CoreValue) : Type 0 where
  pub plan : IsPlan p
  pub tasks : length v.tasks ≡ length p.graph.tasks
  pub released : length v.released ≡ length p.graph.tasks
  pub links : (t : ℕ) → t < length p.graph.tasks → length (slice_index_or v.released t []) ≡ length (after_of p.graph t)
  pub written : length v.written ≡ p.graph.cells
  pub reached : IsReached p (state_of p v)

-- a task can be run: the input cells and those of its predecessors are told
pub record CanRun (p : Plan) (t : ℕ) (outcomes : List Outcome) : Type 0 where
  pub task : t < length p.graph.tasks
  pub room : length outcomes ≡ p.graph.cells
  pub inputs : (c : ℕ) → c < p.graph.inputs → IsTold p outcomes c
  pub before : (u c : ℕ) → Contains (before_of p.graph t) u → Contains (cells_of p.graph u) c → IsTold p outcomes c

-- it was run: its cells are told, and what was told is
pub record HasRun (p : Plan) (t : ℕ) (old new : List Outcome) : Type 0 where
  pub room : length new ≡ p.graph.cells
  pub own : (c : ℕ) → Contains (cells_of p.graph t) c → IsTold p new c
  pub kept : (c : ℕ) → IsTold p old c → IsTold p new c

-- outcomes that are the solution at the cells of the tasks that were run
pub record AreLearned (p : Plan) (ran : List Bool) (outcomes : List Outcome) : Type 0 where
  pub room : length outcomes ≡ p.graph.cells
  pub tasks : length ran ≡ length p.graph.tasks
  pub run : (t c : ℕ) → slice_index_or ran t false ≡ true → Contains (cells_of p.graph t) c → IsTold p outcomes c

-- and at those that are written
abbrev pub AreTold : Plan → List Bool → List Outcome → Type 0
AreTold p written outcomes = (c : ℕ) → slice_index_or written c false ≡ true → IsTold p outcomes c

-- a machine of a work, with a scratch that fits
pub record IsMachine (p work : Plan) (Fits : Type 0) (v : CoreValue) (run : List Bool) (outcomes : List Outcome) : Type 0 where
  pub is_work : work ≡ p
  pub fits : Fits
  pub core : IsCore p v
  pub learned : AreLearned p run outcomes
  pub told : AreTold p v.written outcomes

-- an event happens where it is enabled, and else nothing changes
abbrev pub Steps : Plan → CoreValue → Event → Result (Unit {0}) NotEnabled → CoreValue → Type 0
Steps p old e (Ok done) new = Enabled p (state_of p old) e × (state_of p new ≡ happens p (state_of p old) e)
Steps p old e (Err refused) new = (Enabled p (state_of p old) e → ⊥) × (new ≡ old)

-- the task to which a hand may write a cell; None where there is none
abbrev pub FindsWriter : Plan → CoreValue → ℕ → ℕ → Option ℕ → Type 0
FindsWriter p v hand cell (Some t) =
    Contains (cells_of p.graph t) cell × ((state_of p v).runner t ≡ Some hand) × ((state_of p v).number t ≡ None) × ((state_of p v).value cell ≡ None)
FindsWriter p v hand cell None = Enabled p (state_of p v) (Write hand cell) → ⊥

-- the place of a number whose flag isn't set; None where there is none
abbrev pub FindsOpen : List ℕ → List Bool → ℕ → Option ℕ → Type 0
FindsOpen numbers flags n (Some place) = (place < length numbers) × (slice_index numbers place ≡ n) × (flag_of numbers flags n ≡ false)
FindsOpen numbers flags n None = Contains numbers n → flag_of numbers flags n ≡ false → ⊥

-- the place of a successor that a hand may release; None where there is none
abbrev pub FindsLink : Plan → CoreValue → ℕ → ℕ → ℕ → Option ℕ → Type 0
FindsLink p v hand t next (Some place) =
    Enabled p (state_of p v) (Release hand t next) × (place < length (after_of p.graph t)) × (slice_index (after_of p.graph t) place ≡ next)
FindsLink p v hand t next None = Enabled p (state_of p v) (Release hand t next) → ⊥
