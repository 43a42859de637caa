-- What comes of a turn of a hand.
use Rattle.std.specs.Prelude.{◌≡◌, ◌⊎◌, ℕ, ◌+◌, ◌<◌, ◌==◌, if◌then◌else◌, true, false, List, [], ◌∷◌, ◌++◌, length, map, slice_index, Option, Some, None}
use Rattle.std.specs.List.{AllZip, Contains, sum_by}
use Rattle.pb_taskgraph.specs.Graphs.{EachOnce, after_of}
use Rattle.pb_taskgraph.specs.Plans.{Plan}
use Rattle.pb_cells.specs.declared.view.View.{View}
use Rattle.pb_cells.specs.Shown.{OnTask}
use Rattle.pb_cells.specs.Steps.{IsFiledCount, WaitsFor}
use Rattle.pb_cells.specs.Handles.{JobValue}
use Rattle.pb_cells.specs.Views.{after_release, hand_view}
use Rattle.pb_steal.specs.declared.turn.Turn.{Turn}
use Rattle.pb_steal.specs.declared.turn.Turn.TheVariants.{Done, Idle, Ran}
use Rattle.pb_steal.specs.Deques.{FindsNone, OwnValue, Pops, SourceValue}
use Rattle.pb_steal.specs.Hands.{CrewHandValue, RunnerValue}

-- at the moment at which a seat's task has released a successor, this waits for so many releases more
pub record LeavesAt (p : Plan) (t next left : ℕ) : Type 0 where
  pub view : View
  pub others : List ℕ
  pub by : OnTask (λ j. (j.task ≡ t) × (j.left ≡ left) × (j.released ≡ next ∷ others)) view.job
  pub waits : WaitsFor p view next left

-- A Job releases a successor. Where this waits for no release more, the release has opened it, and its ticket is last in the row.
pub record ReleasesOne (p : Plan) (old : JobValue) (row : List ℕ) (next : ℕ) (new : JobValue) (row' : List ℕ) : Type 0 where
  pub left : ℕ
  pub leaves : LeavesAt p old.at.task next left
  pub job : new ≡ record old { at = after_release next left old.at; opened = if left == 0 then old.opened ++ next ∷ [] else old.opened }
  pub ticket : row' ≡ (if left == 0 then row ++ next ∷ [] else row)

-- those of some successors that wait for no release more
abbrev pub opened_of : List ℕ → List ℕ → List ℕ
opened_of (next ∷ nexts) (left ∷ lefts) = if left == 0 then next ∷ opened_of nexts lefts else opened_of nexts lefts
opened_of _ _ = []

-- A task releases successors, one after another. Those are opened that then wait for no release more.
pub record Opens (p : Plan) (t : ℕ) (nexts opened : List ℕ) : Type 0 where
  pub lefts : List ℕ
  pub size : length lefts ≡ length nexts
  pub each : (k : ℕ) → k < length nexts → LeavesAt p t (slice_index nexts k) (slice_index lefts k)
  pub those : opened ≡ opened_of nexts lefts

-- the same deques
abbrev pub AreSame : List SourceValue → List SourceValue → Type 0
AreSame old new = map (λ s. s.deque) new ≡ map (λ s. s.deque) old

-- one try at each of the others' deques gives the ticket that it took; else each found none
abbrev pub StealsOne : List SourceValue → Option ℕ → List SourceValue → Type 0
StealsOne old (Some t) new = AreSame old new × (sum_by (λ s. s.took) new ≡ sum_by (λ s. s.took) old + 1)
StealsOne old None new = AllZip FindsNone old new

-- one ticket was taken out of a deque, the own one or else one of another; or none was, and of each deque it is said that it can have
-- been empty, or of another's that a task had left it
abbrev pub Takes : OwnValue → List SourceValue → Option ℕ → OwnValue → List SourceValue → Type 0
Takes own others (Some t) own' others' = (Pops own (Some t) own' × (others' ≡ others)) ⊎ (Pops own None own' × StealsOne others (Some t) others')
Takes own others None own' others' = Pops own None own' × AllZip FindsNone others others'

-- a task was run whole that is new to the runner, and the row has just the tasks that its releases have opened
pub record RunsTask (p : Plan) (old : RunnerValue) (t : ℕ) (new : RunnerValue) : Type 0 where
  pub ran : new.ran ≡ old.ran ++ t ∷ []
  pub fresh : Contains old.ran t → ⊥
  pub opens : Opens p t (after_of p.graph t) new.row
  pub once : EachOnce new.row
  pub seat : new.seat.opened ≡ old.seat.opened ++ new.row

-- a task was run that is new to the hand: the hand has taken one ticket out of a deque, and has then pushed just the tasks that the
-- task's releases have opened, each once, in the order of the releases
pub record RunsOne (p : Plan) (old : CrewHandValue) (t : ℕ) (new : CrewHandValue) : Type 0 where
  pub ran : new.ran ≡ old.ran ++ t ∷ []
  pub fresh : Contains old.ran t → ⊥
  pub own : OwnValue
  pub takes : Takes old.own old.others (Some t) own new.others
  pub opened : List ℕ
  pub opens : Opens p t (after_of p.graph t) opened
  pub once : EachOnce opened
  pub seat : new.seat.opened ≡ old.seat.opened ++ opened
  pub pushed : new.own ≡ record own { pushed = own.pushed ++ opened }
  pub done : new.done ≡ false

-- No ticket was taken, and the lists stay. Of the own deque it is said that it can have been empty, and of each other one too, or that a
-- task had left it since the hand had last looked. The hand has looked at the filed count once.
pub record TakesNone (p : Plan) (old new : CrewHandValue) : Type 0 where
  pub none : Takes old.own old.others None new.own new.others
  pub ran : new.ran ≡ old.ran
  pub seat : new.seat ≡ record old.seat { seen = new.seat.seen; looks = old.seat.looks + 1 }
  pub count : IsFiledCount p (hand_view old.seat.opened old.seat.ran old.seat.seen old.seat.looks) new.seat.seen

-- what comes of a turn: a task was run; or no ticket was taken, and less than all tasks were filed, or all
abbrev pub Turns : Plan → CrewHandValue → Turn → CrewHandValue → Type 0
Turns p old (Ran t) new = RunsOne p old t new
Turns p old Idle new = TakesNone p old new × (new.seat.seen < length p.graph.tasks) × (new.done ≡ false)
Turns p old Done new = TakesNone p old new × (new.seat.seen ≡ length p.graph.tasks) × (new.done ≡ true)
