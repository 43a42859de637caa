-- The tasks of a run, one for each step, and the plan that they stand for.
use Rattle.std.specs.Prelude.{◌≡◌, ℕ, ◌+◌, ◌-◌, ◌≤◌, List, [], length, map, Some, slice_get, slice_index_or}
use Rattle.std.specs.List.{AllZip}
use Rattle.std.specs.Option.{option_map_or}
use Rattle.pb_values.specs.Name.{NameValue}
use Rattle.pb_values.specs.Views.{Shows}
use Rattle.pb_values.specs.declared.rect.Rect.{Rect}
use Rattle.pb_values.specs.declared.shape.TheConstants.{MOST_SIDE}
use Rattle.pb_program.specs.Forms.{DeclValue}
use Rattle.pb_model.specs.Calls.{Outcomes}
use Rattle.pb_runs.specs.Handed.{FramePart}
use Rattle.pb_links.specs.Links.{link_count, predecessors, successors}
use Rattle.pb_taskgraph.specs.Graphs.{GraphValue, TaskValue}
use Rattle.pb_taskgraph.specs.Plans.{Plan}
use Rattle.pb_taskgraph.specs.declared.limits.TheConstants.{MOST_CELLS, MOST_LINKS, MOST_TASKS}
use Rattle.pb_taskgraph.specs.declared.task.Part.{Part}
use Rattle.pb_taskgraph.specs.declared.task.TaskKind.{TaskKind}
use Rattle.pb_taskgraph.specs.declared.task.TaskKind.TheVariants.{Copy, Trap}
use Rattle.pb_plan.specs.Boxes.{spot_of}
use Rattle.pb_plan.specs.Tasks.{kind_for}
use Rattle.pb_runs.specs.Handed.{outcomes_of}
use Rattle.pb_runs.specs.Placed.{greatest_side, total}
use Rattle.pb_views.specs.declared.seat.Seat.{Seat}
use Rattle.pb_views.specs.Seats.{across, cell_at, down}
use Rattle.pb_runs.specs.Steps.{Failed, Instance, Step, Target, by_copy, by_job, by_trap, cells_of, places_of, seat_in}
use Rattle.pb_runs.specs.Unrolled.{no_target}

-- ---- parts
-- a rectangle of what a seat shows, with the name of the matrix and its number of dimensions
pub record Piece : Type 0 where
  pub name : NameValue
  pub dims : ℕ
  pub rect : Rect
  pub seat : Seat

abbrev pub piece_of : Instance → FramePart → Piece
piece_of i part =
    let base = (spot_of i.found.nodes part).base in
    record {
      name = option_map_or (λ (d : DeclValue). d.name) (slice_get i.transform.matrices base) no_target.name;
      dims = option_map_or (λ (d : DeclValue). d.dims) (slice_get i.transform.matrices base) 0;
      rect = part.rect;
      seat = seat_in i base;
    }

-- the whole matrix of a target of a call that can't be made
abbrev pub target_at : Failed → Seat → Target
target_at f s = slice_index_or f.targets (s.base - f.first) no_target

abbrev pub trapped_piece : Failed → Seat → Piece
trapped_piece f s = record { name = (target_at f s).name; dims = (target_at f s).dims; rect = record { x0 = 0; y0 = 0; x1 = across s; y1 = down s }; seat = s }

abbrev pub pieces_of : Step → List Piece
pieces_of (by_job i job) = map (piece_of i) job.parts
pieces_of (by_copy i c) = map (piece_of i) c.parts
pieces_of (by_trap f) = map (trapped_piece f) f.seats

-- a part of a task has the places of a piece, and shows its cells
pub record IsPartOf (q : Piece) (part : Part) : Type 0 where
  pub name : part.name ≡ q.name
  pub rect : part.rect ≡ q.rect
  pub cells : Shows part.view (record { dims = q.dims; w = q.rect.x1 - q.rect.x0; h = q.rect.y1 - q.rect.y0 }) (λ x y. cell_at q.seat (q.rect.x0 + x) (q.rect.y0 + y))

-- ---- tasks
abbrev pub call_of : Step → ℕ
call_of (by_job i job) = i.call
call_of (by_copy i c) = i.call
call_of (by_trap f) = f.call

abbrev pub kind_of : Step → TaskKind
kind_of (by_job i job) = kind_for job.rule
kind_of (by_copy i c) = Copy
kind_of (by_trap f) = Trap

module _ (steps : List Step) where
  -- the task of the step with this number; it waits for each other step of which a part meets what it reads
  pub record IsTaskOf (k : ℕ) (s : Step) (task : TaskValue) : Type 0 where
    pub call : task.call ≡ call_of s
    pub kind : task.kind ≡ kind_of s
    pub parts : AllZip IsPartOf (pieces_of s) task.parts
    pub before : task.before ≡ predecessors (map places_of steps) k
    pub after : task.after ≡ successors (map places_of steps) k

  -- there is one for each step
  pub record AreTasksOf (tasks : List TaskValue) : Type 0 where
    pub count : length tasks ≡ length steps
    pub each : (k : ℕ) (s : Step) (task : TaskValue) → slice_get steps k ≡ Some s → slice_get tasks k ≡ Some task → IsTaskOf k s task

  -- the cells of a step, in the order in which its task writes them; past the steps there are none
  unfoldable pub step_order : ℕ → List ℕ
  step_order k = slice_index_or (map cells_of steps) k []

-- ---- the plan
-- the given matrices, all matrices, the steps and their tasks
module _ (ins ms : List Outcomes) (steps : List Step) (tasks : List TaskValue) where
  abbrev pub run_graph : GraphValue
  run_graph = record { inputs = total ins; cells = total ms; tasks = tasks }

  unfoldable pub plan_of_run : Plan
  plan_of_run = record { graph = run_graph; solution = outcomes_of ms; order = step_order steps }

-- within the limits of a run
pub record IsWithinLimits (ms : List Outcomes) (steps : List Step) : Type 0 where
  pub side : greatest_side ms ≤ MOST_SIDE
  pub cells : total ms ≤ MOST_CELLS
  pub tasks : length steps ≤ MOST_TASKS
  pub links : link_count (map places_of steps) ≤ MOST_LINKS
