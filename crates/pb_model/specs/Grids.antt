-- Matrices of anything, as plain data.
use Rattle.std.specs.Prelude.{ℕ, ◌+◌, ◌*◌, ◌&&◌, nat_lt, List, [], Option, None, slice_get, map, if◌then◌else◌}

-- the cells, row by row
pub record Grid (A : Type 0) : Type 0 where
  pub width : ℕ
  pub height : ℕ
  pub cells : List A

abbrev pub no_grid : {A : Type 0} → Grid A
no_grid = record { width = 0; height = 0; cells = [] }

-- what stands at a place, if the place is inside
abbrev pub at_place : {A : Type 0} → Grid A → ℕ → ℕ → Option A
at_place g x y = if nat_lt x g.width && nat_lt y g.height then slice_get g.cells (y * g.width + x) else None

abbrev pub grid_map : {A B : Type 0} → (A → B) → Grid A → Grid B
grid_map f g = record { width = g.width; height = g.height; cells = map f g.cells }
