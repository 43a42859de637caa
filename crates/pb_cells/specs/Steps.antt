-- What a step on a word of the table tells of its seat.
use Rattle.std.specs.Prelude.{◌≡◌, ℕ, ◌+◌, ◌-◌, ◌<◌, ◌≤◌, List, length, map, slice_index, Option, Some, None}
use Rattle.std.specs.List.{Contains}
use mathlib.Core.Option.{some}
use lib.ListN.{get_elem?}
use Rattle.atomic_table.specs.Table as table
use Rattle.pb_taskgraph.specs.Graphs.{EachOnce, before_of}
use Rattle.pb_taskgraph.specs.Plans.{Plan, outcome_at}
use Rattle.pb_taskgraph.specs.Turns.{MayRead}
use Rattle.pb_cells.specs.declared.view.TaskView.{TaskView}
use Rattle.pb_cells.specs.declared.view.View.{View}
use Rattle.pb_cells.specs.Banks.{Bank, bank_of, count_at, mark_at, value_at}
use Rattle.pb_cells.specs.Stories.{Holds}
use Rattle.pb_cells.specs.Views.{after_draw, after_file, after_keep, after_mark, after_store, released_view, with_task}
use Rattle.pb_cells.specs.Words.{mark_of, word_of}

-- a step on a word, and what a seat knows and holds
abbrev pub Step : Type 0
Step = table.Step (Unit {0})

abbrev pub Me : Type 0
Me = table.Me (Unit {0}) View

-- a seat runs a task that isn't finished, and this is the next cell of the task's own order
abbrev pub IsNext : Plan → Option TaskView → ℕ → Type 0
IsNext p None c = ⊥
IsNext p (Some j) c = (j.number ≡ None) × (j.written < length (p.order j.task)) × (c ≡ slice_index (p.order j.task) j.written)

-- the value of a cell is stored, and of no other than the next one
abbrev pub Stores : Plan → Step → Me → ℕ → Me → Type 0
Stores p s me n after = (after ≡ (with_task after_store me.0, me.1)) × ((c : ℕ) × (s.word ≡ value_at p.graph c) × IsNext p me.0.job c)

-- the cell is written
abbrev pub Marks : Step → Me → ℕ → Me → Type 0
Marks s me n after = after ≡ (with_task after_mark me.0, me.1)

-- the task is finished with the number that was found; the number is stored; it is filed
abbrev pub Draws : Step → Me → ℕ → Me → Type 0
Draws s me n after = after ≡ (with_task (after_draw n) me.0, me.1)

abbrev pub StoresNumber : Step → Me → ℕ → Me → Type 0
StoresNumber s me n after = after ≡ (with_task after_keep me.0, me.1)

abbrev pub Files : Step → Me → ℕ → Me → Type 0
Files s me n after = after ≡ (with_task after_file me.0, me.1)

-- what a seat has opened: tasks with predecessors, each once; and what it has taken in: tasks, each once
pub record AreTasks (p : Plan) (tasks : List ℕ) (ended : List (ℕ × ℕ)) : Type 0 where
  pub opened : (t : ℕ) → Contains tasks t → (t < length p.graph.tasks) × (0 < length (before_of p.graph t))
  pub opened_once : EachOnce tasks
  pub ran : (t n : ℕ) → Contains ended (t, n) → (t < length p.graph.tasks) × (n < length p.graph.tasks)
  pub ran_once : EachOnce (map (λ e. e.0) ended)

-- a number of filed tasks isn't below the one that was seen before, nor below that of the tasks that were taken in
pub record IsPast (before : ℕ) (ended : List (ℕ × ℕ)) (n : ℕ) : Type 0 where
  pub risen : before ≤ n
  pub many : length ended ≤ n

-- a state of the table that meets its rule, in which a seat knows just this, and of whose words this is so
pub record SomeMoment (p : Plan) (v : View) (F : Bank → Type 0) : Type 0 where
  pub state : table.State (Unit {0}) View
  pub holds : Holds p state
  pub id : ℕ
  pub knows : get_elem? state.views id ≡ some v
  pub so : F (bank_of p.graph state.words)

-- at a moment a seat knows this, and so many tasks are filed; or a task waits for so many releases
abbrev pub IsFiledCount : Plan → View → ℕ → Type 0
IsFiledCount p v n = SomeMoment p v (λ b. b.filed ≡ n)

abbrev pub WaitsFor : Plan → View → ℕ → ℕ → Type 0
WaitsFor p v t n = SomeMoment p v (λ b. b.count t ≡ n)

-- the filed count is seen, in one look more
abbrev pub Looks : Plan → Step → Me → ℕ → Me → Type 0
Looks p s me n after = (after ≡ (record me.0 { seen = n; looks = me.0.looks + 1 }, me.1)) × IsFiledCount p me.0 n

-- a successor is released, whose count was the number that was found and is one less then
abbrev pub Releases : Plan → Step → Me → ℕ → Me → Type 0
Releases p s me n after = (next : ℕ) → s.word ≡ count_at p.graph next → (0 < n) × (after ≡ (released_view n next me.0, me.1)) × WaitsFor p after.0 next (n - 1)

-- a seat's task may read a cell
abbrev pub CanRead : Plan → Option TaskView → ℕ → Type 0
CanRead p None c = ⊥
CanRead p (Some j) c = MayRead p j.task j.written c

-- a word of a cell that may be read is that of the solution
abbrev pub Reads : Plan → Step → Me → ℕ → Me → Type 0
Reads p s me n after =
    (after ≡ me)
    × ((c : ℕ) → CanRead p me.0.job c → (s.word ≡ mark_at p.graph c → n ≡ mark_of (outcome_at p.solution c)) × (s.word ≡ value_at p.graph c → n ≡ word_of (outcome_at p.solution c)))
