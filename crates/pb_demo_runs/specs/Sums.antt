-- Rows and square matrices of small numbers, and the sums of the first ones of a row.
use Rattle.std.specs.Prelude.{◌≡◌, ℕ, ◌+◌, ◌*◌, ◌≤◌, ℤ, pos, ◌+ℤ◌, unsigned_abs, List, [], ◌∷◌, length, map, take}
use Rattle.std.specs.List.{All}
use Rattle.pb_values.specs.declared.outcome.Outcome.TheVariants.{Value}
use Rattle.pb_linear.specs.declared.sizes.TheConstants.{SIZE_TOP}
use Rattle.pb_model.specs.Calls.{Outcomes}
use Rattle.pb_model.specs.Cells.{Cell}

-- as a matrix of one dimension
abbrev pub row : List ℤ → Outcomes
row numbers = record { width = length numbers; height = 1; cells = map Value numbers }

-- each is from -9 to 9, and a size can say how many there are
pub record IsSmallRow (numbers : List ℤ) : Type 0 where
  pub some : 1 ≤ length numbers
  pub few : length numbers ≤ SIZE_TOP
  pub small : All (λ n. unsigned_abs n ≤ 9) numbers

abbrev pub sum_of : List ℤ → ℤ
sum_of [] = pos 0
sum_of (n ∷ rest) = n +ℤ sum_of rest

-- of the numbers up to a place
abbrev pub sum_to : List ℤ → ℕ → ℤ
sum_to numbers x = sum_of (take (x + 1) numbers)

-- a cell of the matrix after `to`
abbrev pub made_cell : ℕ → Cell
made_cell x = record { matrix = 1; x = x; y = 0 }

-- a square one, row by row
abbrev pub matrix : ℕ → List ℤ → Outcomes
matrix n numbers = record { width = n; height = n; cells = map Value numbers }

-- each is from -9 to 9, and there are as many as such a matrix has cells
pub record IsSmallMatrix (n : ℕ) (numbers : List ℤ) : Type 0 where
  pub all : length numbers ≡ n * n
  pub small : All (λ z. unsigned_abs z ≤ 9) numbers
