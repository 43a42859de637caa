-- The header of a matrix text, and the shapes that it can name.
use Rattle.std.specs.Prelude.{◌≡◌, ℕ, ◌*◌, ◌≤◌, Bool, not, ◌&&◌, ◌==◌, nat_le, nat_lt, length, slice_index, ◌⊎◌, List, [], ◌∷◌, Option, Some, None, codes, bytes_eq, if◌then◌else◌}
use Rattle.std.specs.Str.Parse.{digits_value}
use Rattle.pb_values.specs.declared.shape.Shape.{Shape}
use Rattle.pb_matrix.specs.Words.{is_digits}
use Rattle.pb_matrix.specs.declared.header.TheConstants.{MAX_CELLS}

-- a 0, and more after it
abbrev pub has_leading_zero : List ℕ → Bool
has_leading_zero word = nat_lt 1 (length word) && slice_index word 0 == 48

-- a side of a matrix: digits without a leading zero, and at most the greatest number of cells
abbrev pub side : List ℕ → Option ℕ
side word =
    if (is_digits word && not (has_leading_zero word)) && nat_le (digits_value 10 word) MAX_CELLS then Some (digits_value 10 word)
    else None

abbrev pub one_side : Option ℕ → Option Shape
one_side (Some w) = Some (record { dims = 1; w = w; h = 1 })
one_side None = None

abbrev pub two_sides : Option ℕ → Option ℕ → Option Shape
two_sides (Some w) (Some h) = if nat_le (w * h) MAX_CELLS then Some (record { dims = 2; w = w; h = h }) else None
two_sides (Some _) None = None
two_sides None _ = None

-- the shape that the words of a header name: `matrix`, the width, and maybe the height
abbrev pub header_shape : List (List ℕ) → Option Shape
header_shape [] = None
header_shape (_ ∷ []) = None
header_shape (name ∷ w ∷ []) = if bytes_eq name (codes "matrix") then one_side (side w) else None
header_shape (name ∷ w ∷ h ∷ []) = if bytes_eq name (codes "matrix") then two_sides (side w) (side h) else None
header_shape (_ ∷ _ ∷ _ ∷ _ ∷ _) = None

abbrev pub cell_count : Shape → ℕ
cell_count s = s.w * s.h

-- a shape that a header can name
pub record IsMatrixShape (s : Shape) : Type 0 where
  pub dims : ((s.dims ≡ 1) × (s.h ≡ 1)) ⊎ (s.dims ≡ 2)
  pub width : s.w ≤ MAX_CELLS
  pub height : s.h ≤ MAX_CELLS
  pub cells : s.w * s.h ≤ MAX_CELLS
