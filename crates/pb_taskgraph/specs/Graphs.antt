-- Tasks, their cells and their links.
use Rattle.std.specs.Prelude.{◌≡◌, ℕ, ◌<◌, ◌≤◌, ◌↔◌, List, [], length, map, slice_index, slice_index_or}
use Rattle.std.specs.List.{Contains, flat_map, sum_by}
use Rattle.pb_values.specs.Views.{view_cells}
use Rattle.pb_taskgraph.specs.declared.limits.TheConstants.{MOST_CELLS, MOST_LINKS, MOST_TASKS}
use Rattle.pb_taskgraph.specs.declared.task.TaskKind.{TaskKind}
use Rattle.pb_taskgraph.specs.declared.task.Part.{Part}

-- a task
pub record TaskValue : Type 0 where
  pub call : ℕ
  pub kind : TaskKind
  pub parts : List Part
  pub before : List ℕ
  pub after : List ℕ

-- the cells of a task, part by part
abbrev pub task_cells : TaskValue → List ℕ
task_cells task = flat_map (λ part. view_cells part.view) task.parts

-- a graph of tasks: how many input cells there are, how many cells in all, and the tasks by number
pub record GraphValue : Type 0 where
  pub inputs : ℕ
  pub cells : ℕ
  pub tasks : List TaskValue

-- the cells of a task by its number; of a number past the tasks there are none
unfoldable pub cells_of : GraphValue → ℕ → List ℕ
cells_of g t = slice_index_or (map task_cells g.tasks) t []

-- the predecessors of a task
unfoldable pub before_of : GraphValue → ℕ → List ℕ
before_of g t = slice_index_or (map (λ task. task.before) g.tasks) t []

-- the successors of a task
unfoldable pub after_of : GraphValue → ℕ → List ℕ
after_of g t = slice_index_or (map (λ task. task.after) g.tasks) t []

-- no number stands twice in a list
abbrev pub EachOnce : List ℕ → Type 0
EachOnce xs = (i j : ℕ) → i < length xs → j < length xs → slice_index xs i ≡ slice_index xs j → i ≡ j

-- the cells of the tasks are all cells but the input cells, each once
pub record IsPartition (g : GraphValue) : Type 0 where
  pub inputs : g.inputs ≤ g.cells
  pub past : (t c : ℕ) → Contains (cells_of g t) c → (g.inputs ≤ c) × (c < g.cells)
  pub some : (c : ℕ) → g.inputs ≤ c → c < g.cells → (t : ℕ) × (t < length g.tasks) × Contains (cells_of g t) c
  pub one : (t u c : ℕ) → Contains (cells_of g t) c → Contains (cells_of g u) c → t ≡ u
  pub once : (t : ℕ) → EachOnce (cells_of g t)

-- predecessors have smaller numbers, and predecessors and successors name the same links, each once
pub record IsLinked (g : GraphValue) : Type 0 where
  pub smaller : (t u : ℕ) → Contains (before_of g t) u → u < t
  pub mirrored : (t u : ℕ) → Contains (before_of g t) u ↔ Contains (after_of g u) t
  pub before_once : (t : ℕ) → EachOnce (before_of g t)
  pub after_once : (t : ℕ) → EachOnce (after_of g t)

-- how many pairs of a task and a predecessor there are
abbrev pub link_count : GraphValue → ℕ
link_count g = sum_by (λ task. length task.before) g.tasks

-- the facts of a graph of tasks, within the limits of a run
pub record IsGraph (g : GraphValue) : Type 0 where
  pub partition : IsPartition g
  pub linked : IsLinked g
  pub few_cells : g.cells ≤ MOST_CELLS
  pub few_tasks : length g.tasks ≤ MOST_TASKS
  pub few_links : link_count g ≤ MOST_LINKS
