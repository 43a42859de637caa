-- The answer of a run: its first trapped cell, or else the matrices that it gives.
use Rattle.std.specs.Prelude.{ℕ, ◌+◌, List, drop, map, Option, Some, None, Result, Ok, Err}
use Rattle.std.specs.List.{flat_map, zip}
use Rattle.pb_program.specs.Forms.{DeclValue}
use Rattle.pb_program.specs.Trees.{ProgTransform}
use Rattle.pb_matrix.specs.Text.{matrix_text}
use Rattle.pb_matrix.specs.Value.{MatrixValue}
use Rattle.pb_model.specs.Calls.{Outcomes, TrappedCell, first_trapped, made_cells}
use Rattle.pb_model.specs.Equations.{number_in}
use Rattle.pb_run_work.specs.Running.{RunValue, first_call, of_sizes, of_transform}

-- a matrix that a call gives, as it is declared; a trap in it would count as 0
abbrev pub matrix_of : DeclValue × Outcomes → MatrixValue
matrix_of m = record { shape = record { dims = m.0.dims; w = m.1.width; h = m.1.height }; cells = map number_in m.1.cells }

-- the matrices after `to`, of all matrices of a call
abbrev pub results_of : ProgTransform → List Outcomes → List MatrixValue
results_of t ms = map matrix_of (zip (drop (t.inputs + t.middles) t.matrices) (drop (t.inputs + t.middles) ms))

abbrev pub unless_trapped : Option TrappedCell → List MatrixValue → Result (List MatrixValue) TrappedCell
unless_trapped (Some cell) results = Err cell
unless_trapped None results = Ok results

-- of all matrices of a call, those that are given and those that it makes: the first trapped cell of those after `through`
-- and then `to`, in declared order, each row by row; where none is trapped the matrices after `to`
abbrev pub answer_of : ProgTransform → List ℕ → List Outcomes → Result (List MatrixValue) TrappedCell
answer_of t sizes ms = unless_trapped (first_trapped ms (made_cells t sizes)) (results_of t ms)

-- the texts of matrices, one after the other
abbrev pub matrices_text : List MatrixValue → List ℕ
matrices_text ms = flat_map (λ m. matrix_text m.shape m.cells) ms

-- ---- a run's, which is that of its first call
abbrev pub trapped_in : RunValue → Option TrappedCell
trapped_in r = first_trapped (first_call r) (made_cells (of_transform r) (of_sizes r))

abbrev pub results_in : RunValue → List MatrixValue
results_in r = results_of (of_transform r) (first_call r)
