-- Rectangles of places, and the cells that a view shows.
use Rattle.std.specs.Prelude.{◌≡◌, ℕ, ◌+◌, ◌*◌, ◌≤◌, ◌<◌, List, map}
use Rattle.std.specs.List.{flat_map, range_with_len}
use Rattle.pb_values.specs.declared.rect.Rect.{Rect}
use Rattle.pb_values.specs.declared.shape.Shape.{Shape}
use Rattle.pb_values.specs.declared.view.View.{View}

-- a place lies in a rectangle
pub record HasPlace (r : Rect) (x y : ℕ) : Type 0 where
  pub left : r.x0 ≤ x
  pub right : x < r.x1
  pub low : r.y0 ≤ y
  pub high : y < r.y1

-- a place lies in a shape
abbrev pub IsInside : Shape → ℕ → ℕ → Type 0
IsInside s x y = (x < s.w) × (y < s.h)

-- a rectangle, empty or not, lies in a shape
pub record FitsInto (s : Shape) (r : Rect) : Type 0 where
  pub across : r.x0 ≤ r.x1
  pub down : r.y0 ≤ r.y1
  pub wide : r.x1 ≤ s.w
  pub tall : r.y1 ≤ s.h

-- the cell that a view shows at a place
abbrev pub cell_of : View → ℕ → ℕ → ℕ
cell_of v x y = v.first + (x * v.step_x + y * v.step_y)

-- the cells of a row of a view
abbrev pub row_cells : View → ℕ → List ℕ
row_cells v y = map (λ x. cell_of v x y) (range_with_len 0 v.shape.w)

-- the cells of a view, row by row
abbrev pub view_cells : View → List ℕ
view_cells v = flat_map (row_cells v) (range_with_len 0 v.shape.h)

-- the view has this shape, and shows these cells
pub record Shows (v : View) (s : Shape) (cell : ℕ → ℕ → ℕ) : Type 0 where
  pub shape : v.shape ≡ s
  pub cells : (x y : ℕ) → x < s.w → y < s.h → cell_of v x y ≡ cell x y
