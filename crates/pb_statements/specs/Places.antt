-- What a name of a view stands for, place by place.
use Rattle.std.specs.Prelude.{ℕ, ◌+◌, ◌-◌, ◌*◌, ◌≤◌, ℤ, pos, ◌+ℤ◌, ◌*ℤ◌, List, Result, length, map, slice_index_or}
use Rattle.std.specs.List.{flat_map, range_with_len}
use Rattle.pb_values.specs.Cells.{Turn}
use Rattle.pb_values.specs.Checked.{checked_result}
use Rattle.pb_values.specs.declared.outcome.Kind.{Kind}
use Rattle.pb_values.specs.Views.{cell_of}
use Rattle.pb_model.specs.Bodies.{if_ok}
use Rattle.pb_model.specs.Grids.{Grid}
use Rattle.pb_statements.specs.Shown.{HasNumbers, number_told}
use Rattle.pb_statements.specs.declared.shown.Shown.{Shown}
use Rattle.pb_statements.specs.declared.shown.Shown.TheVariants.{Told, Kept, Nothing}

abbrev pub width_of : Shown → ℕ
width_of (Told v) = v.shape.w
width_of (Kept s) = s.width
width_of Nothing = 0

abbrev pub height_of : Shown → ℕ
height_of (Told v) = v.shape.h
height_of (Kept s) = s.height
height_of Nothing = 0

-- the number at a place, where these are the numbers of all outputs
abbrev pub number_at : Turn → List ℤ → Shown → ℕ → ℕ → ℤ
number_at turn numbers (Told v) x y = number_told turn (cell_of v x y)
number_at turn numbers (Kept s) x y = slice_index_or numbers (s.first + (y * s.width + x)) (pos 0)
number_at turn numbers Nothing x y = pos 0

-- the numbers of a row
unfoldable pub row_of : (ℕ → ℕ → ℤ) → ℕ → ℕ → List ℤ
row_of f w y = map (λ x. f x y) (range_with_len 0 w)

-- from a place on
unfoldable pub row_from : (ℕ → ℕ → ℤ) → ℕ → ℕ → ℕ → List ℤ
row_from f w y x = map (λ i. f i y) (range_with_len x (w - x))

-- of all rows
unfoldable pub rows_of : (ℕ → ℕ → ℤ) → ℕ → ℕ → List ℤ
rows_of f w h = flat_map (row_of f w) (range_with_len 0 h)

-- from a row on
unfoldable pub rows_from : (ℕ → ℕ → ℤ) → ℕ → ℕ → ℕ → List ℤ
rows_from f w h y = flat_map (row_of f w) (range_with_len y (h - y))

unfoldable pub grid_shown : Turn → List ℤ → Shown → Grid ℤ
grid_shown turn numbers s = record { width = width_of s; height = height_of s; cells = rows_of (number_at turn numbers s) (width_of s) (height_of s) }

-- what is shown can be read
abbrev pub IsShown : Turn → List ℤ → Shown → Type 0
IsShown turn numbers (Told v) = HasNumbers turn v
IsShown turn numbers (Kept s) = s.first + s.height * s.width ≤ length numbers
IsShown turn numbers Nothing = Unit {0}

-- a sum, and a product added to it
abbrev pub plus_product : ℤ → ℤ → ℤ → Result ℤ Kind
plus_product total a b = if_ok (checked_result (a *ℤ b)) (λ p. checked_result (total +ℤ p))
