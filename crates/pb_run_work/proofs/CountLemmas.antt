-- The sides and the cells of the matrices that are given, matrix by matrix.
use Rattle.std.proofs.Common.{◌≡◌, ap, ℕ, zero, suc, ◌+◌, ◌<◌, ◌≤◌, List, [], ◌∷◌, length, take, get_or, add-one, arith}
use Rattle.std.proofs.lemmas.List.{length-map}
use Rattle.pb_values.specs.declared.outcome.Outcome.TheVariants.{Value}
use Rattle.pb_matrix.specs.Value.{MatrixValue}
use Rattle.pb_steps.specs.Handed.{total}
use Rattle.pb_run_work.specs.Given.{given_as}

total_more : (ms : List MatrixValue) (i : ℕ) (m : MatrixValue) → i < length ms → m ≡ get_or ms i m → total (given_as (take (suc i) ms)) ≡ total (given_as (take i ms)) + length m.cells
total_more [] i m below is = absurd (omega (arith, below))
total_more (g ∷ ms) zero m below is = omega (arith, ap (λ (q : MatrixValue). length q.cells) is, length-map g.cells (λ z. Value z))
total_more (g ∷ ms) (suc i) m below is = omega (arith, total_more ms i m (omega (arith, below)) is)

pub total_next : (ms : List MatrixValue) (i : ℕ) (m : MatrixValue) → i < length ms → m ≡ get_or ms i m → total (given_as (take (i + 1) ms)) ≡ total (given_as (take i ms)) + length m.cells
total_next ms i m below is = rw (add-one) (total_more ms i m below is)

pub total_part : (ms : List MatrixValue) (i : ℕ) → total (given_as (take i ms)) ≤ total (given_as ms)
total_part [] zero = omega arith
total_part [] (suc i) = omega arith
total_part (g ∷ ms) zero = omega arith
total_part (g ∷ ms) (suc i) = omega (arith, total_part ms i)
