-- What contracts see of Jobs and Hands.
use Rattle.std.specs.Prelude.{◌≡◌, Bool, IsTrue, max, ℕ, ◌<◌, ◌++◌, List, [], ◌∷◌, length, Option, Some, None, is_some}
use Rattle.atomic_table.specs.Seated.{TableId}
use Rattle.pb_values.specs.Cells.{Turn, is_number}
use Rattle.pb_values.specs.declared.outcome.Outcome.{Outcome}
use Rattle.pb_taskgraph.specs.Known.{known_turn}
use Rattle.pb_taskgraph.specs.Plans.{IsPlan, Plan, outcome_at}
use Rattle.pb_cells.specs.declared.view.TaskView.{TaskView}
use Rattle.pb_cells.specs.Banks.{width}
use Rattle.pb_cells.specs.Steps.{Me}
use Rattle.pb_cells.specs.Views.{after_release, ended_by, hand_view, job_view, untouched}

-- a Job: its table, what it knows of its task, and the tasks that it has opened
pub record JobValue : Type 0 where
  pub table : TableId
  pub at : TaskView
  pub opened : List ℕ

-- a Hand: its table, the tasks that it has opened, the finished tasks that it has taken in with their numbers, the filed count
-- that it has seen, and how often it has looked
pub record HandValue : Type 0 where
  pub table : TableId
  pub opened : List ℕ
  pub ran : List (ℕ × ℕ)
  pub seen : ℕ
  pub looks : ℕ

-- no table
abbrev pub no_table : TableId
no_table = record { words = 0; slots = 0; views_name = 0; atom = 0; block = 0; offset = 0; slot_names = [] }

-- a Job of a task of which nothing is done, and a Hand that has done nothing
abbrev pub new_job : TableId → ℕ → JobValue
new_job table t = record { table = table; at = untouched t; opened = [] }

abbrev pub new_hand : TableId → HandValue
new_hand table = record { table = table; opened = []; ran = []; seen = 0; looks = 0 }

-- the task that a seat runs
abbrev pub task_of : Option TaskView → TaskView
task_of None = untouched 0
task_of (Some j) = j

-- a seat of a Job of this task: it runs the task, and has no other turn; where the task is finished, its number is filed
pub record IsJob (p : Plan) (me : Me) (t : ℕ) : Type 0 where
  pub me_is : me ≡ (job_view (task_of me.0.job) me.0.opened, [])
  pub task_is : t ≡ (task_of me.0.job).task
  pub task : (task_of me.0.job).task < length p.graph.tasks
  pub filed : (task_of me.0.job).filed ≡ is_some (task_of me.0.job).number

-- a seat of a Hand: it runs no task, and has no turn
abbrev pub IsHand : Me → Type 0
IsHand me = me ≡ (hand_view me.0.opened me.0.ran me.0.seen me.0.looks, [])

-- what a port tells of the task of a Job
abbrev pub turn_at : Plan → TaskView → Turn
turn_at p j = known_turn p j.task j.written

-- A successor is released. Where its count became 0, the release has opened it, and there is a Job of it; else there is none.
abbrev pub HasReleased : JobValue → ℕ → Option JobValue → JobValue → Type 0
HasReleased old next (Some job) new =
    (new ≡ record old { at = after_release next 0 old.at; opened = old.opened ++ next ∷ [] }) × (job ≡ new_job old.table next)
HasReleased old next None new = (0 < new.at.left) × (new ≡ record old { at = after_release next new.at.left old.at })

-- a Hand takes in a Job
abbrev pub hand_with : HandValue → JobValue → HandValue
hand_with hand job = record hand { opened = hand.opened ++ job.opened; ran = hand.ran ++ ended_by (Some job.at) }

-- a Hand takes in another Hand
abbrev pub gathered : HandValue → HandValue → HandValue
gathered hand other = record hand { opened = hand.opened ++ other.opened; ran = hand.ran ++ other.ran; seen = max hand.seen other.seen }

-- a table has the words of a plan of so many cells and tasks
pub record IsTable (p : Plan) (table : TableId) (cell_count task_count : ℕ) : Type 0 where
  pub plan : IsPlan p
  pub words : table.words ≡ width p.graph
  pub slots : table.slots ≡ 0
  pub cells : cell_count ≡ p.graph.cells
  pub tasks : task_count ≡ length p.graph.tasks

-- each of the first cells has a number; and each input cell
abbrev pub ArePlain : Plan → ℕ → Type 0
ArePlain p first = (c : ℕ) → c < first → IsTrue (is_number (Some (outcome_at p.solution c)))

abbrev pub HasPlainInputs : Plan → Type 0
HasPlainInputs p = ArePlain p p.graph.inputs

-- and there is room for what the run will have told, as many outcomes and numbers; where `plain` says so, each input cell has a number
pub record IsCells (p : Plan) (id : TableId) (cell_count task_count : ℕ) (outcomes : List Outcome) (order : List ℕ) (plain : Bool) : Type 0 where
  pub table : IsTable p id cell_count task_count
  pub outcome_room : length outcomes ≡ cell_count
  pub order_room : length order ≡ task_count
  pub inputs : IsTrue plain → HasPlainInputs p
