-- The text that is written for a matrix.
use Rattle.std.specs.Prelude.{ℕ, zero, suc, List, [], ◌∷◌, ◌++◌, map, flat_map, take, drop, codes, decimal, ℤ, ◌==◌, if◌then◌else◌}
use Rattle.std.specs.List.{join_with_byte}
use Rattle.std.specs.Fmt.{signed_decimal}
use Rattle.pb_values.specs.declared.shape.Shape.{Shape}

-- words with single blanks between them, and an LF
abbrev pub line_text : List (List ℕ) → List ℕ
line_text ws = join_with_byte 32 ws ++ 10 ∷ []

-- `matrix`, the width, and with two dimensions the height
abbrev pub header_words : Shape → List (List ℕ)
header_words s = codes "matrix" ∷ decimal s.w ∷ (if s.dims == 2 then decimal s.h ∷ [] else [])

-- rows of this width, from the front of the cells
abbrev pub rows : ℕ → ℕ → List ℤ → List (List ℤ)
rows zero w cells = []
rows (suc h) w cells = take w cells ∷ rows h w (drop w cells)

-- the rows of a matrix, none where it has no cells
abbrev pub matrix_rows : Shape → List ℤ → List (List ℤ)
matrix_rows s [] = []
matrix_rows s (c ∷ cs) = rows s.h s.w (c ∷ cs)

-- the line of a row
abbrev pub row_text : List ℤ → List ℕ
row_text row = line_text (map signed_decimal row)

abbrev pub matrix_text : Shape → List ℤ → List ℕ
matrix_text s cells = line_text (header_words s) ++ flat_map row_text (matrix_rows s cells)
