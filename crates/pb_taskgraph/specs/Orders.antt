-- Orders in which the tasks of a graph may be run.
use Rattle.std.specs.Prelude.{ℕ, ◌<◌, List, length, slice_index}
use Rattle.std.specs.List.{Contains}
use Rattle.pb_taskgraph.specs.Graphs.{EachOnce, GraphValue, before_of}

-- each task stands there once, after its predecessors
pub record IsLawful (g : GraphValue) (order : List ℕ) : Type 0 where
  pub only : (t : ℕ) → Contains order t → t < length g.tasks
  pub each : (t : ℕ) → t < length g.tasks → Contains order t
  pub once : EachOnce order
  pub after : (i j : ℕ) → i < length order → j < length order → Contains (before_of g (slice_index order i)) (slice_index order j) → j < i
