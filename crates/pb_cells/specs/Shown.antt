-- What words and views of a table show.
use Rattle.std.specs.Prelude.{◌≡◌, ℕ, ◌<◌, ◌↔◌, ◌⊎◌, true, List, [], length, Option, Some, None, IsSome}
use Rattle.std.specs.List.{Contains}
use mathlib.Core.Option.{some}
use lib.ListN.{get_elem?}
use Rattle.pb_taskgraph.specs.Graphs.{EachOnce, after_of, before_of}
use Rattle.pb_taskgraph.specs.Plans.{Plan}
use Rattle.pb_core.specs.Snapshots.{Snapshot}
use Rattle.pb_cells.specs.declared.view.TaskView.{TaskView}
use Rattle.pb_cells.specs.declared.view.View.{View}
use Rattle.pb_cells.specs.Banks.{Bank}
use Rattle.pb_cells.specs.Stories.{TellsCell}

-- a seat runs a task of which something is so
abbrev pub OnTask : (TaskView → Type 0) → Option TaskView → Type 0
OnTask F None = ⊥
OnTask F (Some j) = F j

-- a seat has the turn of a task: nobody has begun it, or the seat has and it isn't finished
abbrev pub HasTurn : ℕ → View → Type 0
HasTurn t v = Contains v.turns t ⊎ OnTask (λ j. (j.task ≡ t) × (j.number ≡ None)) v.job

-- a seat says that a task is finished with a number
abbrev pub SaysFinished : ℕ → ℕ → View → Type 0
SaysFinished t n v = OnTask (λ j. (j.task ≡ t) × (j.number ≡ Some n)) v.job ⊎ Contains v.ran (t, n)

-- a seat says that the finish number of a task is stored; it says that the task is filed
abbrev pub SaysStored : ℕ → ℕ → View → Type 0
SaysStored t n v = OnTask (λ j. (j.task ≡ t) × (j.number ≡ Some n) × (j.kept ≡ true)) v.job ⊎ Contains v.ran (t, n)

abbrev pub SaysFiled : ℕ → View → Type 0
SaysFiled t v = OnTask (λ j. (j.task ≡ t) × (j.filed ≡ true)) v.job ⊎ ((n : ℕ) × Contains v.ran (t, n))

-- a seat says that its finished task owes a release to a successor
abbrev pub SaysOwed : Plan → ℕ → ℕ → View → Type 0
SaysOwed p u t v = OnTask (λ j. (j.task ≡ u) × IsSome j.number × Contains (after_of p.graph u) t × (Contains j.released t → ⊥)) v.job

-- a seat with this number knows something of which this is so
abbrev pub SeatWith : List View → (View → Type 0) → ℕ → Type 0
SeatWith views F id = (v : View) × (get_elem? views id ≡ some v) × F v

-- some seat does; just one does; each does
abbrev pub SomeSeat : List View → (View → Type 0) → Type 0
SomeSeat views F = (id : ℕ) × SeatWith views F id

abbrev pub OneSeat : List View → (View → Type 0) → Type 0
OneSeat views F = (id : ℕ) × SeatWith views F id × ((other : ℕ) → SeatWith views F other → other ≡ id)

abbrev pub EverySeat : List View → (View → Type 0) → Type 0
EverySeat views F = (id : ℕ) (v : View) → get_elem? views id ≡ some v → F v

-- the other seats know later what they know
abbrev pub OthersKeep : ℕ → List View → List View → Type 0
OthersKeep id views later = (o : ℕ) (v : View) → (o ≡ id → ⊥) → get_elem? views o ≡ some v → get_elem? later o ≡ some v

-- a seat that runs a task and has taken in none runs the same task later
abbrev pub GoesOn : View → View → Type 0
GoesOn v w = (v.ran ≡ []) × OnTask (λ j. OnTask (λ k. k.task ≡ j.task) w.job) v.job

-- The words and the views show a snapshot: the words are its counts, its number of finished tasks and its outcomes, and the
-- views tell its finished tasks with their numbers and its owed releases, each of which one seat owes.
pub record ShowsIt (p : Plan) (b : Bank) (views : List View) (q : Snapshot) : Type 0 where
  pub count : (t : ℕ) → t < length p.graph.tasks → b.count t ≡ q.count t
  pub finish : b.finish ≡ q.finished
  pub cells : (c : ℕ) → c < p.graph.cells → TellsCell (q.value c) (b.mark c) (b.value c)
  pub numbers : (t n : ℕ) → (q.number t ≡ Some n) ↔ SomeSeat views (SaysFinished t n)
  pub owed : (u t : ℕ) → (q.owed u t ≡ true) ↔ SomeSeat views (SaysOwed p u t)
  pub owed_once : (u t id other : ℕ) → SeatWith views (SaysOwed p u t) id → SeatWith views (SaysOwed p u t) other → other ≡ id

-- just the tasks of which seats say that they are filed, each once
pub record AreFiled (views : List View) (tasks : List ℕ) : Type 0 where
  pub each : (t : ℕ) → Contains tasks t ↔ SomeSeat views (SaysFiled t)
  pub once : EachOnce tasks

-- an opened task waits for no release, has a predecessor, and no other seat has opened it
pub record IsOpened (p : Plan) (b : Bank) (views : List View) (id t : ℕ) : Type 0 where
  pub count : b.count t ≡ 0
  pub before : 0 < length (before_of p.graph t)
  pub one : (other : ℕ) → SeatWith views (λ v. Contains v.opened t) other → other ≡ id

-- a seat's finished task is a predecessor of a task and has released it, or the seat has taken in a predecessor
abbrev pub KnowsBefore : Plan → ℕ → View → Type 0
KnowsBefore p t v =
    OnTask (λ j. Contains (before_of p.graph t) j.task × IsSome j.number × Contains j.released t) v.job ⊎ ((u : ℕ) × (n : ℕ) × Contains v.ran (u, n) × Contains (before_of p.graph t) u)

-- a task whose turn a seat has waits for no release, and no seat says that it is finished
pub record IsTurn (p : Plan) (b : Bank) (views : List View) (t : ℕ) : Type 0 where
  pub task : t < length p.graph.tasks
  pub count : b.count t ≡ 0
  pub unfinished : (n : ℕ) → SomeSeat views (SaysFinished t n) → ⊥
