-- What contracts see of a hand of a crew.
use Rattle.std.specs.Prelude.{◌≡◌, ℕ, ◌+◌, ◌<◌, ◌≤◌, Bool, true, List, ◌++◌, length, map}
use Rattle.std.specs.List.{Contains, sum_by}
use Rattle.atomic_table.specs.Seated.{TableId}
use Rattle.pb_taskgraph.specs.Graphs.{EachOnce, after_of, before_of}
use Rattle.pb_taskgraph.specs.Plans.{Plan}
use Rattle.pb_cells.specs.Handles.{HandValue}
use Rattle.pb_cells.specs.Steps.{AreTasks}
use Rattle.pb_steal.specs.Deques.{OwnValue, SourceValue}

-- who runs tasks: its seat at the table, the tasks that it has run, and the row of those that the last one has opened
pub record RunnerValue : Type 0 where
  pub seat : HandValue
  pub ran : List ℕ
  pub row : List ℕ

-- A runner at the table with this name. It has run what its seat has taken in. Its list has room for all tasks, and its row for the
-- successors of any task.
pub record IsRunner (p : Plan) (name : TableId) (runner : RunnerValue) (ran_room row_room : ℕ) : Type 0 where
  pub table : runner.seat.table ≡ name
  pub told : AreTasks p runner.seat.opened runner.seat.ran
  pub ran : runner.ran ≡ map (λ e. e.0) runner.seat.ran
  pub room : length p.graph.tasks ≤ ran_room
  pub widest : (t : ℕ) → length (after_of p.graph t) ≤ row_room

-- a hand: who runs its tasks, its own deque, those of the others, and whether its last turn was Done
pub record CrewHandValue : Type 0 where
  pub seat : HandValue
  pub ran : List ℕ
  pub own : OwnValue
  pub others : List SourceValue
  pub done : Bool

-- how many tickets a hand has taken out of deques
abbrev pub taken : OwnValue → List SourceValue → ℕ
taken own others = own.took + sum_by (λ s. s.took) others

-- tasks that were dealt: they have no predecessor, each once
pub record AreDealt (p : Plan) (tasks : List ℕ) : Type 0 where
  pub once : EachOnce tasks
  pub ready : (t : ℕ) → Contains tasks t → (t < length p.graph.tasks) × (length (before_of p.graph t) ≡ 0)

-- A hand at the table with this name. Each task that it has run was a ticket that it took out of a deque. It has pushed what was
-- dealt to it and then what its own seat has opened, and there is room for all tasks.
pub record IsCrewHand (p : Plan) (name : TableId) (hand : CrewHandValue) : Type 0 where
  pub table : hand.seat.table ≡ name
  pub told : AreTasks p hand.seat.opened hand.seat.ran
  pub ran : hand.ran ≡ map (λ e. e.0) hand.seat.ran
  pub took : length hand.ran ≡ taken hand.own hand.others
  pub dealt : List ℕ
  pub dealt_are : AreDealt p dealt
  pub pushed : hand.own.pushed ≡ dealt ++ hand.seat.opened
  pub room : length p.graph.tasks ≤ hand.own.room
  pub done : hand.done ≡ true → hand.seat.seen ≡ length p.graph.tasks
