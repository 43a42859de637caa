-- What a summary says of a matrix.
use Rattle.std.specs.Prelude.{ℕ, List, [], ◌∷◌, ◌++◌, codes, decimal, ℤ, pos, ◌+ℤ◌, ◌==◌, if◌then◌else◌}
use Rattle.std.specs.Fmt.{signed_decimal}
use Rattle.std.specs.Int.{int_min, int_max}
use Rattle.std.specs.List.{fold}
use Rattle.pb_values.specs.declared.shape.Shape.{Shape}
use Rattle.pb_matrix.specs.Value.{MatrixValue}

-- the least and the greatest of some cells, 0 where there are none
abbrev pub least_of : List ℤ → ℤ
least_of [] = pos 0
least_of (c ∷ cs) = fold int_min c cs

abbrev pub greatest_of : List ℤ → ℤ
greatest_of [] = pos 0
greatest_of (c ∷ cs) = fold int_max c cs

-- the exact sum, of whatever size
abbrev pub sum_of : List ℤ → ℤ
sum_of cells = fold ◌+ℤ◌ (pos 0) cells

-- the width, and with two dimensions the height
abbrev pub sides_text : Shape → List ℕ
sides_text s = if s.dims == 2 then decimal s.w ++ (codes " " ++ decimal s.h) else decimal s.w

-- a line: a name, the sides, the least and the greatest cell, and the sum of all
abbrev pub summary_text : List ℕ → MatrixValue → List ℕ
summary_text name m =
    name ++ (codes " " ++ (sides_text m.shape ++ (codes " least " ++ (signed_decimal (least_of m.cells)
    ++ (codes " greatest " ++ (signed_decimal (greatest_of m.cells) ++ (codes " sum " ++ (signed_decimal (sum_of m.cells) ++ 10 ∷ []))))))))
