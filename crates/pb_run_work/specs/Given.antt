-- The matrices that are given to a run.
use Rattle.std.specs.Prelude.{◌≡◌, ◌*◌, IsTrue, List, length, map}
use Rattle.std.specs.List.{All}
use Rattle.pb_values.specs.Checked.{fits_i64}
use Rattle.pb_values.specs.declared.outcome.Outcome.TheVariants.{Value}
use Rattle.pb_matrix.specs.Value.{MatrixValue}
use Rattle.pb_model.specs.Calls.{Outcomes}

-- as matrices of outcomes
abbrev pub outcomes_in : MatrixValue → Outcomes
outcomes_in m = record { width = m.shape.w; height = m.shape.h; cells = map (λ z. Value z) m.cells }

abbrev pub given_as : List MatrixValue → List Outcomes
given_as inputs = map outcomes_in inputs

-- a matrix has the cells that its shape says, which are numbers of 64 bits
pub record IsWhole (m : MatrixValue) : Type 0 where
  pub cells : length m.cells ≡ m.shape.w * m.shape.h
  pub small : All (λ z. IsTrue (fits_i64 z)) m.cells
