-- The text of a run's trace.
use Rattle.std.specs.Prelude.{ℕ, ◌==◌, if◌then◌else◌, List, [], ◌++◌, length, Option, Some, None, codes, decimal, slice_get}
use Rattle.std.specs.List.{flat_map}
use Rattle.pb_taskgraph.specs.declared.task.Part.{Part}
use Rattle.pb_taskgraph.specs.declared.task.TaskKind.{TaskKind}
use Rattle.pb_taskgraph.specs.declared.task.TaskKind.TheVariants.{Block, Wide, Copy, Trap}
use Rattle.pb_taskgraph.specs.Graphs.{GraphValue, TaskValue}

-- the word for what a task does
abbrev pub kind_word : TaskKind → List ℕ
kind_word Block = codes "block"
kind_word Wide = codes "wide"
kind_word Copy = codes "copy"
kind_word Trap = codes "trap"

-- `[0,1)`
abbrev pub interval_text : ℕ → ℕ → List ℕ
interval_text low high = (codes "[" ++ decimal low) ++ ((codes "," ++ decimal high) ++ codes ")")

-- a part of a matrix of one dimension, `B[0,1)`, or of two, `AB[0,8)x[0,4)`
abbrev pub part_text : Part → List ℕ
part_text part =
    part.name.bytes ++ (interval_text part.rect.x0 part.rect.x1
    ++ (if part.view.shape.dims == 1 then [] else codes "x" ++ interval_text part.rect.y0 part.rect.y1))

abbrev pub after_blank : Part → List ℕ
after_blank part = codes " " ++ part_text part

-- `task 0 call 0 block B[0,1) C[0,1)`
abbrev pub task_line : ℕ → TaskValue → List ℕ
task_line number task =
    (codes "task " ++ decimal number) ++ ((codes " call " ++ decimal task.call)
    ++ (codes " " ++ (kind_word task.kind ++ (flat_map after_blank task.parts ++ codes "\n"))))

-- the line of a task by its number, nothing where there is none
abbrev pub line_of : ℕ → Option TaskValue → List ℕ
line_of number None = []
line_of number (Some task) = task_line number task

abbrev pub task_line_at : List TaskValue → ℕ → List ℕ
task_line_at tasks number = line_of number (slice_get tasks number)

-- how many tasks there are, and a line for each task of the order
abbrev pub trace_text : GraphValue → List ℕ → List ℕ
trace_text graph order = (codes "trace " ++ decimal (length graph.tasks)) ++ (codes "\n" ++ flat_map (task_line_at graph.tasks) order)
