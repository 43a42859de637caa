-- What seats know, and what a step adds to it.
use Rattle.std.specs.Prelude.{max, ℕ, ◌+◌, ◌-◌, ◌==◌, true, false, List, [], ◌∷◌, ◌++◌, length, filter, drop, Option, Some, None, if◌then◌else◌}
use Rattle.std.specs.List.{range_with_len}
use Rattle.pb_taskgraph.specs.Graphs.{before_of}
use Rattle.pb_taskgraph.specs.Plans.{Plan}
use Rattle.pb_cells.specs.declared.view.TaskView.{TaskView}
use Rattle.pb_cells.specs.declared.view.View.{View}

-- of a task nothing is done
abbrev pub untouched : ℕ → TaskView
untouched t = record { task = t; written = 0; stored = false; number = None; kept = false; filed = false; released = []; left = 0 }

-- a Job's seat: its task, and the tasks that it has opened
abbrev pub job_view : TaskView → List ℕ → View
job_view j opened = record { job = Some j; turns = []; opened = opened; ran = []; seen = 0; looks = 0 }

-- a hand's seat: what it has opened and run, the count that it has seen, and how often it has looked
abbrev pub hand_view : List ℕ → List (ℕ × ℕ) → ℕ → ℕ → View
hand_view opened ran seen looks = record { job = None; turns = []; opened = opened; ran = ran; seen = seen; looks = looks }

-- a seat that knows nothing, as one is left that another has taken in
abbrev pub no_view : View
no_view = hand_view [] [] 0 0

-- the tasks without predecessors, in order
unfoldable pub ready_tasks : Plan → List ℕ
ready_tasks p = filter (λ t. length (before_of p.graph t) == 0) (range_with_len 0 (length p.graph.tasks))

-- a seat that holds these turns and has done nothing
abbrev pub turns_view : List ℕ → View
turns_view turns = record { job = None; turns = turns; opened = []; ran = []; seen = 0; looks = 0 }

-- the first seat holds the turns of the tasks without predecessors
unfoldable pub first_view : Plan → View
first_view p = turns_view (ready_tasks p)

-- a task's next value is stored; its next cell is written; its finish number is drawn, stored, and filed
abbrev pub after_store : TaskView → TaskView
after_store j = record j { stored = true }

abbrev pub after_mark : TaskView → TaskView
after_mark j = record j { written = j.written + 1; stored = false }

abbrev pub after_draw : ℕ → TaskView → TaskView
after_draw n j = record j { number = Some n }

abbrev pub after_keep : TaskView → TaskView
after_keep j = record j { kept = true }

abbrev pub after_file : TaskView → TaskView
after_file j = record j { filed = true }

-- it is finished with this number, which is filed
abbrev pub after_finish : ℕ → TaskView → TaskView
after_finish n j = record j { number = Some n; kept = true; filed = true }

-- it has released a successor, which waits for so many releases more
abbrev pub after_release : ℕ → ℕ → TaskView → TaskView
after_release next left j = record j { released = next ∷ j.released; left = left }

-- a seat whose task has gone on
abbrev pub changed : (TaskView → TaskView) → Option TaskView → Option TaskView
changed change None = None
changed change (Some j) = Some (change j)

abbrev pub with_task : (TaskView → TaskView) → View → View
with_task change v = record v { job = changed change v.job }

-- a successor whose count was found to be 1 is opened by its release, and its turn is held
abbrev pub with_opened : ℕ → ℕ → List ℕ → List ℕ
with_opened found next tasks = if found == 1 then tasks ++ next ∷ [] else tasks

abbrev pub released_view : ℕ → ℕ → View → View
released_view found next v = record v { job = changed (after_release next (found - 1)) v.job; turns = with_opened found next v.turns; opened = with_opened found next v.opened }

-- the first turn goes to a new seat
abbrev pub first_turn : List ℕ → ℕ
first_turn [] = 0
first_turn (t ∷ ts) = t

abbrev pub without_turn : View → View
without_turn v = record v { turns = drop 1 v.turns }

abbrev pub turn_view : View → View
turn_view v = job_view (untouched (first_turn v.turns)) []

-- a finished task with its number
abbrev pub numbered : ℕ → Option ℕ → List (ℕ × ℕ)
numbered t None = []
numbered t (Some n) = (t, n) ∷ []

abbrev pub ended_by : Option TaskView → List (ℕ × ℕ)
ended_by None = []
ended_by (Some j) = numbered j.task j.number

-- a hand takes in what another seat knows of its finished task, and the tasks that it has opened
abbrev pub joined_view : View → View → View
joined_view v w = record v { opened = v.opened ++ w.opened; ran = v.ran ++ ended_by w.job }

-- a hand takes in what another hand knows
abbrev pub gathered_view : View → View → View
gathered_view v w = record v { opened = v.opened ++ w.opened; ran = v.ran ++ w.ran; seen = max v.seen w.seen }
