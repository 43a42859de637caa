-- The trace of a rolling sum in two tasks, and parts of a matrix of two dimensions.
use Rattle.std.proofs.Common.{◌≡◌, ℕ, List, [], ◌∷◌, ◌++◌, codes, refl, arith}
use Rattle.std.specs.Fmt.{digits}
use Rattle.pb_values.specs.declared.rect.Rect.{Rect}
use Rattle.pb_values.specs.declared.view.View.{View}
use Rattle.pb_taskgraph.specs.declared.task.Part.{Part}
use Rattle.pb_taskgraph.specs.declared.task.TaskKind.{TaskKind}
use Rattle.pb_taskgraph.specs.declared.task.TaskKind.TheVariants.{Block, Copy}
use Rattle.pb_taskgraph.specs.Graphs.{GraphValue, TaskValue}
use Rattle.pb_taskgraph.specs.Trace.{task_line, trace_text}

abbrev view : ℕ → View
view dims = record { first = 0; step_x = 0; step_y = 0; shape = record { dims = dims; w = 0; h = 0 }; small = omega arith }

abbrev part : List ℕ → ℕ → Rect → Part
part name dims rect = record { name = record { bytes = name; at = 0 }; rect = rect; view = view dims }

abbrev task : TaskKind → List Part → TaskValue
task kind parts = record { call = 0; kind = kind; parts = parts; before = []; after = [] }

abbrev graph : GraphValue
graph = record {
  inputs = 4;
  cells = 8;
  tasks = task Block (part (codes "B") 1 (record { x0 = 0; y0 = 0; x1 = 1; y1 = 1 }) ∷ []) ∷ task Block (part (codes "B") 1 (record { x0 = 1; y0 = 0; x1 = 4; y1 = 1 }) ∷ []) ∷ [];
}

pub rolling_sum_trace : trace_text graph (0 ∷ 1 ∷ []) ≡ codes "trace 2\n" ++ codes "task 0 call 0 block B[0,1)\n" ++ codes "task 1 call 0 block B[1,4)\n"
unfolding digits
rolling_sum_trace = refl

pub line_of_two_parts :
    task_line 7 (task Copy (part (codes "AB") 2 (record { x0 = 0; y0 = 0; x1 = 8; y1 = 4 }) ∷ part (codes "C") 2 (record { x0 = 2; y0 = 0; x1 = 3; y1 = 1 }) ∷ []))
    ≡ codes "task 7 call 0 copy AB[0,8)x[0,4) C[2,3)x[0,1)\n"
unfolding digits
line_of_two_parts = refl
