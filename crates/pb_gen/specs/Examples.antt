-- The matrices of an example: the stream of a seed's cells, cut into three pieces.
use Rattle.std.specs.Prelude.{◌≡◌, ℕ, zero, suc, ◌*◌, ◌≤◌, List, [], ◌∷◌, length, All, IsTrue, unsigned_abs}
use Rattle.pb_values.specs.declared.shape.Shape.{Shape}
use Rattle.pb_values.specs.Checked.{fits_i64}
use Rattle.pb_matrix.specs.Value.{MatrixValue}
use Rattle.pb_matrix.specs.Header.{IsMatrixShape, cell_count}
use Rattle.pb_gen.specs.Stream.{cells_after}

-- a square, with two dimensions
abbrev pub square : ℕ → Shape
square size = record { dims = 2; w = size; h = size }

-- a line, with one dimension
abbrev pub line : ℕ → Shape
line size = record { dims = 1; w = size; h = 1 }

-- the matrix of this shape, row by row, from the cells of a seed after its first k
abbrev pub matrix_after : ℕ → ℕ → Shape → MatrixValue
matrix_after seed k shape = record { shape = shape; cells = cells_after seed k (cell_count shape) }

-- 0: the two factors of a product. 1: the input of the rolling sum, which stands after both in the stream
abbrev pub example_of : ℕ → ℕ → ℕ → List MatrixValue
example_of zero seed size = matrix_after seed 0 (square size) ∷ matrix_after seed (size * size) (square size) ∷ []
example_of (suc _) seed size = matrix_after seed (2 * (size * size)) (line size) ∷ []

-- a matrix that a run can be given: it has the cells that its shape says, which are numbers of 64 bits
pub record IsInput (m : MatrixValue) : Type 0 where
  pub shape : IsMatrixShape m.shape
  pub cells : length m.cells ≡ cell_count m.shape
  pub fits : All (λ z. IsTrue (fits_i64 z)) m.cells

-- each cell is from -9 to 9
abbrev pub IsSmall : MatrixValue → Type 0
IsSmall m = All (λ z. unsigned_abs z ≤ 9) m.cells
