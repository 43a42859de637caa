-- The table from the cells past the input cells to the tasks that make them.
use Rattle.std.specs.Prelude.{◌≡◌, ℕ, ◌<◌, ◌≤◌, ◌+◌, ◌-◌, List, [], ◌∷◌, length, slice_index, slice_set}
use Rattle.std.specs.List.{Contains}
use Rattle.pb_taskgraph.specs.Graphs.{GraphValue, IsGraph, cells_of}

-- a cell has an entry in a table with so many entries, of which that of the cell `first` is the first
abbrev pub HasEntry : ℕ → ℕ → ℕ → Type 0
HasEntry first room c = (first ≤ c) × (c < first + room)

-- a table with the same number in the entries of these cells
abbrev pub filled : ℕ → List ℕ → List ℕ → ℕ → List ℕ
filled first xs [] n = xs
filled first xs (c ∷ cs) n = filled first (slice_set xs (c - first) n) cs n

-- the table has an entry for each cell past the input cells, and names at their cells the tasks with numbers below this one
pub record HasOwners (g : GraphValue) (t : ℕ) (owners : List ℕ) : Type 0 where
  pub room : length owners ≡ g.cells - g.inputs
  pub owner : (u c : ℕ) → u < t → Contains (cells_of g u) c → slice_index owners (c - g.inputs) ≡ u

-- a graph with its table
pub record IsHeld (g : GraphValue) (owners : List ℕ) : Type 0 where
  pub graph : IsGraph g
  pub table : HasOwners g (length g.tasks) owners
