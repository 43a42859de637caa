-- The tasks that are ready.
use Rattle.std.specs.Prelude.{ℕ, ◌<◌, ◌≤◌, ◌↔◌, List, length, nat_eq}
use Rattle.std.specs.List.{Contains, IsDistinct}
use Rattle.pb_taskgraph.specs.Graphs.{EachOnce}
use Rattle.pb_taskgraph.specs.Plans.{Plan}
use Rattle.pb_core.specs.States.{State}
use Rattle.pb_locked.specs.Boards.{IsReady}

-- tasks, and for how many there is room
pub record ReadyValue : Type 0 where
  pub tasks : List ℕ
  pub room : ℕ

-- just the numbers of which something is true, each once, with room for so many
pub record Holds (IsIn : ℕ → Type 0) (most : ℕ) (v : ReadyValue) : Type 0 where
  pub each : (t : ℕ) → Contains v.tasks t ↔ IsIn t
  pub once : IsDistinct nat_eq v.tasks
  pub room : most ≤ v.room

-- the ready tasks of a state, with room for all tasks
abbrev pub HoldsReady : Plan → State → ReadyValue → Type 0
HoldsReady p s v = Holds (IsReady p s) (length p.graph.tasks) v

-- tasks that can be added to others: each once, and none that is there
pub record Adds (p : Plan) (v : ReadyValue) (new : List ℕ) : Type 0 where
  pub there : Holds (Contains v.tasks) (length p.graph.tasks) v
  pub tasks : (t : ℕ) → Contains v.tasks t → t < length p.graph.tasks
  pub fresh : (t : ℕ) → Contains new t → t < length p.graph.tasks
  pub one : EachOnce new
  pub apart : (t : ℕ) → Contains new t → Contains v.tasks t → ⊥
