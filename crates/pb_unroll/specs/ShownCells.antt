-- What views show of the outcomes of a run's cells, which stand one after the other.
use Rattle.std.specs.Prelude.{◌≡◌, ℕ, ◌+◌, ◌-◌, ◌/◌, ◌%◌, ◌≤◌, nat_lt, Bool, true, false, List, [], ◌∷◌, length, map, take, drop, Option, Some, None, if◌then◌else◌}
use Rattle.std.specs.List.{sum_by}
use Rattle.pb_values.specs.declared.outcome.Outcome.{Outcome}
use Rattle.pb_values.specs.declared.outcome.Outcome.TheVariants.{Value, Trapped}
use Rattle.pb_values.specs.declared.shape.TheConstants.{MOST_SIDE}
use Rattle.pb_values.specs.declared.view.View.{View}
use Rattle.pb_matrix.specs.Header.{IsMatrixShape, cell_count}
use Rattle.pb_matrix.specs.Text.{matrix_text}
use Rattle.pb_matrix.specs.Value.{MatrixValue}
use Rattle.pb_model.specs.Equations.{number_in}

abbrev pub is_trapped : Outcome → Bool
is_trapped (Value v) = false
is_trapped (Trapped t) = true

-- no side is above the limit
pub record IsShort (v : View) : Type 0 where
  pub width : v.shape.w ≤ MOST_SIDE
  pub height : v.shape.h ≤ MOST_SIDE

-- how many cells matrices have
abbrev pub cells_shown : List View → ℕ
cells_shown views = sum_by (λ v. cell_count v.shape) views

-- the matrix of a cell and its place there, among matrices that stand one after the other and whose numbers begin here
abbrev pub place_in : List View → ℕ → ℕ → Option (ℕ × ℕ × ℕ)
place_in [] first cell = None
place_in (v ∷ vs) first cell =
    if nat_lt cell (cell_count v.shape) then Some (first, cell % v.shape.w, cell / v.shape.w) else place_in vs (first + 1) (cell - cell_count v.shape)

-- the outcomes of a matrix's cells, row by row
abbrev pub cells_in : List Outcome → View → List Outcome
cells_in outcomes v = take (cell_count v.shape) (drop v.first outcomes)

-- the matrix; a trap in it counts as 0
abbrev pub matrix_in : List Outcome → View → MatrixValue
matrix_in outcomes v = record { shape = v.shape; cells = map number_in (cells_in outcomes v) }

-- its text
abbrev pub text_in : List Outcome → View → List ℕ
text_in outcomes v = matrix_text v.shape (map number_in (cells_in outcomes v))

-- it has a text, and all its cells are there
pub record IsWritable (outcomes : List Outcome) (v : View) : Type 0 where
  pub shape : IsMatrixShape v.shape
  pub cells : length (cells_in outcomes v) ≡ cell_count v.shape
