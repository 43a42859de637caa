-- What the words of a table and the views of its seats stand for: a state of the machine whose hands are the seats.
use Rattle.std.specs.Prelude.{◌≡◌, ℕ, ◌<◌, ◌≤◌, ◌==◌, ◌↔◌, ◌⊎◌, Bool, true, false, List, [], ◌∷◌, length, map, slice_index, take, Option, Some, None, IsSome, if◌then◌else◌}
use Rattle.std.specs.List.{Contains}
use mathlib.Core.Option.{some}
use lib.ListN.{get_elem?}
use Rattle.atomic_table.specs.Table as table
use Rattle.pb_values.specs.declared.outcome.Outcome.{Outcome}
use Rattle.pb_taskgraph.specs.Graphs.{EachOnce, after_of, before_of}
use Rattle.pb_taskgraph.specs.Plans.{IsPlan, Plan, outcome_at}
use Rattle.pb_core.specs.States.{State}
use Rattle.pb_core.specs.Sound.{IsSound}
use Rattle.pb_cells.specs.declared.view.TaskView.{TaskView}
use Rattle.pb_cells.specs.declared.view.View.{View}
use Rattle.pb_cells.specs.Banks.{Bank, bank_of, width}
use Rattle.pb_cells.specs.Words.{mark_of, word_of}

pub record Story : Type 0 where
  -- the state of the machine; the holder of a task that nobody has begun is the seat that holds its turn
  pub core : State
  -- how many cells of its own order each task has written
  pub wrote : ℕ → ℕ
  -- the task whose release has opened a task, and the seat that has taken in a finished one
  pub opener : ℕ → Option ℕ
  pub taker : ℕ → Option ℕ
  -- whether the finish number of a task is stored, and the tasks that are filed
  pub kept : ℕ → Bool
  pub filed : List ℕ

-- the two words of a cell tell its outcome; the mark of a cell that isn't written is 0
abbrev pub TellsCell : Option Outcome → ℕ → ℕ → Type 0
TellsCell None mark word = mark ≡ 0
TellsCell (Some v) mark word = (mark ≡ mark_of v) × (word ≡ word_of v)

-- the written cells of a task are the first ones of its own order
abbrev pub AreFirst : (ℕ → Option Outcome) → ℕ → List ℕ → Type 0
AreFirst value written order = (c : ℕ) → Contains order c → IsSome (value c) ↔ Contains (take written order) c

-- a stored finish number is the one that was drawn; the filed tasks are counted, each once, and their numbers are stored
pub record TellsNumbers (drawn : ℕ → Option ℕ) (words : ℕ → ℕ) (count : ℕ) (is_kept : ℕ → Bool) (tasks : List ℕ) : Type 0 where
  pub stored : (t : ℕ) → is_kept t ≡ true → drawn t ≡ Some (words t)
  pub count_is : count ≡ length tasks
  pub once : EachOnce tasks
  pub kept : (t : ℕ) → Contains tasks t → is_kept t ≡ true

-- the words tell the story
pub record Tells (p : Plan) (b : Bank) (y : Story) : Type 0 where
  -- Numbers, counts, releases, turns and outcomes are those of a sound state. So a task's count is its unfinished
  -- predecessors and the releases that are owed to it, and a finished task's is 0; the finish count is the number of finished
  -- tasks, their numbers are those below it, each once, and a predecessor's is smaller; a written cell has the solution's
  -- outcome; input cells and those of finished tasks are written, and those of a task that nobody has begun are not.
  pub sound : IsSound p y.core
  pub counts : (t : ℕ) → t < length p.graph.tasks → b.count t ≡ y.core.count t
  pub finish : b.finish ≡ y.core.finished
  pub cells : (c : ℕ) → c < p.graph.cells → TellsCell (y.core.value c) (b.mark c) (b.value c)
  pub order : (t : ℕ) → t < length p.graph.tasks → AreFirst y.core.value (y.wrote t) (p.order t)
  -- a task that nobody has begun has written nothing and never changed hands
  pub unbegun : (t : ℕ) → y.core.runner t ≡ None → (y.wrote t ≡ 0) × (y.core.given t ≡ false)
  -- an opened task waits for no release, and a predecessor has opened it
  pub opened : (t u : ℕ) → y.opener t ≡ Some u → (y.core.count t ≡ 0) × Contains (before_of p.graph t) u
  -- each task that has predecessors and waits for no release is opened
  pub opens : (t : ℕ) → t < length p.graph.tasks → y.core.count t ≡ 0 → 0 < length (before_of p.graph t) → IsSome (y.opener t)
  -- a task that was taken in is finished, owes no release, and is filed
  pub taken : (t id : ℕ) → y.taker t ≡ Some id → IsSome (y.core.number t) × ((u : ℕ) → Contains (after_of p.graph t) u → y.core.released t u ≡ true) × Contains y.filed t
  pub numbers : TellsNumbers y.core.number b.number b.filed y.kept y.filed

-- a seat holds the turn of a task that nobody has begun
abbrev pub HoldsTurn : (ℕ → Option ℕ) → (ℕ → Option ℕ) → ℕ → ℕ → Type 0
HoldsTurn holder runner t id = (holder t ≡ Some id) × (runner t ≡ None)

-- a seat has begun a task, which no other seat has taken in
abbrev pub Runs : (ℕ → Option ℕ) → (ℕ → Option ℕ) → ℕ → ℕ → Type 0
Runs runner taker t id = (runner t ≡ Some id) × (taker t ≡ None)

-- a seat knows what has come of a task: it runs it, or has taken it in
abbrev pub Keeps : (ℕ → Option ℕ) → (ℕ → Option ℕ) → ℕ → ℕ → Type 0
Keeps runner taker t id = Runs runner taker t id ⊎ (taker t ≡ Some id)

-- a seat has opened a task: it knows of the task whose release did
abbrev pub HasOpened : Story → ℕ → ℕ → Type 0
HasOpened y t id = (u : ℕ) × (y.opener t ≡ Some u) × Keeps y.core.runner y.taker u id

-- whether a number stands in a list
abbrev pub is_listed : List ℕ → ℕ → Bool
is_listed [] n = false
is_listed (x ∷ xs) n = if n == x then true else is_listed xs n

-- the next cell of a task in its own order
abbrev pub next_cell : Plan → TaskView → ℕ
next_cell p j = slice_index (p.order j.task) j.written

-- a task has a next cell, whose value word is that of the solution
abbrev pub IsStored : Plan → (ℕ → ℕ) → TaskView → Type 0
IsStored p value j = (j.written < length (p.order j.task)) × (value (next_cell p j) ≡ word_of (outcome_at p.solution (next_cell p j)))

-- what a seat knows of its task is so, and this is its only one
pub record FitsTask (p : Plan) (b : Bank) (y : Story) (id : ℕ) (j : TaskView) : Type 0 where
  pub runs : Runs y.core.runner y.taker j.task id
  pub only : (t : ℕ) → Runs y.core.runner y.taker t id → t ≡ j.task
  pub wrote : y.wrote j.task ≡ j.written
  pub stored : j.stored ≡ true → IsStored p b.value j
  pub number : y.core.number j.task ≡ j.number
  pub kept : y.kept j.task ≡ j.kept
  pub filed : is_listed y.filed j.task ≡ j.filed
  pub released : (u : ℕ) → y.core.released j.task u ≡ is_listed j.released u

abbrev pub FitsJob : Plan → Bank → Story → ℕ → Option TaskView → Type 0
FitsJob p b y id None = (t : ℕ) → Runs y.core.runner y.taker t id → ⊥
FitsJob p b y id (Some j) = FitsTask p b y id j

-- just the turns that a seat holds, each once
pub record FitsTurns (holder runner : ℕ → Option ℕ) (id : ℕ) (turns : List ℕ) : Type 0 where
  pub each : (t : ℕ) → Contains turns t ↔ HoldsTurn holder runner t id
  pub once : EachOnce turns

-- just the tasks that a seat has opened, each once
pub record FitsOpened (y : Story) (id : ℕ) (opened : List ℕ) : Type 0 where
  pub each : (t : ℕ) → Contains opened t ↔ HasOpened y t id
  pub once : EachOnce opened

-- what the last of some releases has left of a count is 0 just where it has opened the successor
abbrev pub IsLeft : List ℕ → ℕ → List ℕ → Type 0
IsLeft [] left opened = Unit {0}
IsLeft (next ∷ others) left opened = (left ≡ 0) ↔ Contains opened next

abbrev pub FitsLeft : Option TaskView → List ℕ → Type 0
FitsLeft None opened = Unit {0}
FitsLeft (Some j) opened = IsLeft j.released j.left opened

-- just the tasks that a seat has taken in, with their numbers, each once
pub record FitsRan (taker number : ℕ → Option ℕ) (id : ℕ) (ran : List (ℕ × ℕ)) : Type 0 where
  pub each : (t n : ℕ) → Contains ran (t, n) ↔ ((taker t ≡ Some id) × (number t ≡ Some n))
  pub once : EachOnce (map (λ e. e.0) ran)

-- what a seat knows is so
pub record Fits (p : Plan) (b : Bank) (y : Story) (id : ℕ) (v : View) : Type 0 where
  pub job : FitsJob p b y id v.job
  pub turns : FitsTurns y.core.holder y.core.runner id v.turns
  pub opened : FitsOpened y id v.opened
  pub left : FitsLeft v.job v.opened
  pub ran : FitsRan y.taker y.core.number id v.ran
  pub seen : v.seen ≤ b.filed

-- the seats of which the story speaks are there
pub record AreSeats (holder runner taker : ℕ → Option ℕ) (seats : ℕ) : Type 0 where
  pub holders : (t id : ℕ) → holder t ≡ Some id → id < seats
  pub runners : (t id : ℕ) → runner t ≡ Some id → id < seats
  pub takers : (t id : ℕ) → taker t ≡ Some id → id < seats

-- the words tell the story, and what each seat knows fits it
pub record IsStory (p : Plan) (b : Bank) (views : List View) (y : Story) : Type 0 where
  pub tells : Tells p b y
  pub seats : AreSeats y.core.holder y.core.runner y.taker (length views)
  pub fits : (id : ℕ) (v : View) → get_elem? views id ≡ some v → Fits p b y id v

-- the rule of the table, between any two steps: its words and views have a story
pub record Holds (p : Plan) (s : table.State (Unit {0}) View) : Type 0 where
  pub plan : IsPlan p
  pub width : length s.words ≡ width p.graph
  pub story : Story
  pub is : IsStory p (bank_of p.graph s.words) s.views story
