-- Where the cells of a task stand among its own.
use Rattle.std.specs.Prelude.{◌≡◌, ℕ, ◌+◌, ◌<◌, List, [], ◌∷◌, length, slice_index, slice_set}
use Rattle.pb_taskgraph.specs.Graphs.{GraphValue, cells_of}

-- for each cell its place among the cells of its task, and for each task how many cells it has
pub record PlacesValue : Type 0 where
  pub places : List ℕ
  pub counts : List ℕ

-- a list with numbers at these places, one after another
abbrev pub numbered : List ℕ → List ℕ → ℕ → List ℕ
numbered xs [] n = xs
numbered xs (c ∷ cs) n = numbered (slice_set xs c n) cs (n + 1)

-- the cells of the tasks with smaller numbers have their places, part by part, each row by row; and these tasks are counted
pub record HasPlaces (g : GraphValue) (t : ℕ) (v : PlacesValue) : Type 0 where
  pub room : length v.places ≡ g.cells
  pub place : (u i : ℕ) → u < t → i < length (cells_of g u) → slice_index v.places (slice_index (cells_of g u) i) ≡ i
  pub tasks : length v.counts ≡ t
  pub count : (u : ℕ) → u < t → slice_index v.counts u ≡ length (cells_of g u)
