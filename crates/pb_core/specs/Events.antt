-- Lists of events.
use Rattle.std.specs.Prelude.{◌≡◌, ℕ, ◌+◌, ◌-◌, ◌*◌, ◌==◌, ◌<◌, ◌≤◌, zero, suc, Bool, false, List, [], ◌∷◌, length, map, filter_map, slice_index, Option, Some, None, IsSome, if◌then◌else◌}
use Rattle.std.specs.List.{Contains, range_with_len}
use Rattle.pb_taskgraph.specs.Graphs.{EachOnce, GraphValue, before_of, link_count}
use Rattle.pb_taskgraph.specs.Plans.{Plan}
use Rattle.pb_core.specs.declared.event.Event.{Event}
use Rattle.pb_core.specs.declared.event.Event.TheVariants.{Finish, Give, Release, Start, Write}
use Rattle.pb_core.specs.States.{Enabled, State, first_state, happens}

-- each event is enabled in its turn
abbrev pub AllEnabled : Plan → State → List Event → Type 0
AllEnabled p s [] = Unit {0}
AllEnabled p s (e ∷ es) = Enabled p s e × AllEnabled p (happens p s e) es

-- the state after events
abbrev pub all_happen : Plan → State → List Event → State
all_happen p s [] = s
all_happen p s (e ∷ es) = all_happen p (happens p s e) es

-- an event that isn't a Give
abbrev pub IsWork : Event → Type 0
IsWork (Start hand task) = Unit {0}
IsWork (Write hand cell) = Unit {0}
IsWork (Finish hand task) = Unit {0}
IsWork (Release hand task next) = Unit {0}
IsWork (Give giver taker task) = ⊥

-- the cell that an event writes
abbrev pub written_by : Event → Option ℕ
written_by (Start hand task) = None
written_by (Write hand cell) = Some cell
written_by (Finish hand task) = None
written_by (Release hand task next) = None
written_by (Give giver taker task) = None

-- the cells of a list of events, in the order in which they are written
abbrev pub writes : List Event → List ℕ
writes events = filter_map written_by events

-- all tasks are finished
abbrev pub AllFinished : GraphValue → State → Type 0
AllFinished g s = (t : ℕ) → t < length g.tasks → IsSome (s.number t)

-- three events for each task, one for each cell past the inputs and one for each link
abbrev pub most_events : GraphValue → ℕ
most_events g = 3 * length g.tasks + (g.cells - g.inputs) + link_count g

-- whether a task has this finish number
abbrev pub has_number : Option ℕ → ℕ → Bool
has_number None n = false
has_number (Some m) n = m == n

-- the greatest task below another that has this finish number
abbrev pub task_numbered : (ℕ → Option ℕ) → ℕ → ℕ → ℕ
task_numbered number zero n = 0
task_numbered number (suc t) n = if has_number (number t) n then t else task_numbered number t n

-- the tasks of a graph with the first finish numbers, by number
abbrev pub by_number : GraphValue → (ℕ → Option ℕ) → ℕ → List ℕ
by_number g number finished = map (task_numbered number (length g.tasks)) (range_with_len 0 finished)

-- the finished tasks, each once, by number and after its predecessors
pub record IsFinishedOrder (g : GraphValue) (s : State) (order : List ℕ) : Type 0 where
  pub number : (i : ℕ) → i < length order → s.number (slice_index order i) ≡ Some i
  pub only : (t : ℕ) → Contains order t → (t < length g.tasks) × IsSome (s.number t)
  pub each : (t : ℕ) → IsSome (s.number t) → Contains order t
  pub once : EachOnce order
  pub after : (i u : ℕ) → i < length order → Contains (before_of g (slice_index order i)) u → (j : ℕ) × (j < i) × (slice_index order j ≡ u)

-- a state that enabled events of some hands, from 1 to 64, lead to
pub record IsReached (p : Plan) (s : State) : Type 0 where
  pub hands : ℕ
  pub some : 1 ≤ hands
  pub few : hands ≤ 64
  pub events : List Event
  pub enabled : AllEnabled p (first_state p hands) events
  pub is : s ≡ all_happen p (first_state p hands) events
