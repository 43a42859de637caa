-- The matrices of an example: that they are what is drawn, that a run can be given each, and that their cells are small.
use Rattle.std.proofs.Common.{◌≡◌, ◌<◌, ◌≤◌, ◌*◌, ℕ, zero, suc, ℤ, List, [], ◌∷◌, length, get_or, All, IsTrue, unsigned_abs, pos, negsuc, inl, inr, refl, ap, ◌∙◌, arith}
use Rattle.std.proofs.Math.Nat.{mul-le-mul}
use Rattle.std.proofs.lemmas.Bool.Decides.{nat_tests}
use Rattle.std.proofs.lemmas.List.Elements.{All-cons}
use Rattle.rand_pcg.specs.Lcg.{Lcg, advance}
use Rattle.rand_pcg.specs.Pcg.{multiplier_64}
use Rattle.pb_values.specs.declared.shape.Shape.{Shape}
use Rattle.pb_values.specs.Checked.{fits_i64}
use Rattle.pb_matrix.specs.Value.{MatrixValue}
use Rattle.pb_matrix.specs.Header.{IsMatrixShape, cell_count}
use Rattle.pb_gen.specs.Stream.{drawn, generator_of, cells_after}
use Rattle.pb_gen.specs.Examples.{square, line, matrix_after, example_of, IsInput, IsSmall}
use Rattle.pb_gen.proofs.StreamLemmas.{drawn_after, length-drawn, small_drawn}

-- what a generator draws after k steps
module _ (seed k : ℕ) (shape : Shape) (g h : Lcg) (new : g ≡ generator_of seed) (after : h ≡ advance 64 multiplier_64 k g) where
  pub drawn_is : drawn (cell_count shape) h ≡ cells_after seed k (cell_count shape)
  drawn_is = ap (drawn (cell_count shape)) (after ∙ ap (advance 64 multiplier_64 k) new) ∙ drawn_after k (cell_count shape) (generator_of seed)

  pub matrix_is : (m : MatrixValue) → m ≡ record { shape = shape; cells = drawn (cell_count shape) h } → m ≡ matrix_after seed k shape
  matrix_is m is =
      let of_cells : List ℤ → MatrixValue = λ cells. record { shape = shape; cells = cells } in
      is ∙ ap of_cells drawn_is

pub factors_are : (which seed size : ℕ) (ms : List MatrixValue) (a b : MatrixValue) → which ≡ 0 → ms ≡ a ∷ b ∷ []
    → a ≡ matrix_after seed 0 (square size) → b ≡ matrix_after seed (size * size) (square size) → ms ≡ example_of which seed size
factors_are which seed size ms a b first items is_a is_b = rw (first, items, is_a, is_b) refl

pub line_is : (which seed size : ℕ) (ms : List MatrixValue) (a : MatrixValue) → 0 < which → ms ≡ a ∷ []
    → a ≡ matrix_after seed (2 * (size * size)) (line size) → ms ≡ example_of which seed size
line_is zero seed size ms a second items is_a = absurd (omega arith)
line_is (suc which) seed size ms a second items is_a = rw (items, is_a) refl

-- ---- what holds of each matrix
small_fits : (z : ℤ) → unsigned_abs z ≤ 9 → IsTrue (fits_i64 z)
small_fits (pos n) small = grind (arith, nat_tests)
small_fits (negsuc n) small = grind (arith, nat_tests)

module _ (seed k : ℕ) (shape : Shape) where
  small_after : IsSmall (matrix_after seed k shape)
  small_after = rw (← drawn_after k (cell_count shape) (generator_of seed)) (small_drawn (cell_count shape) _)

  length_after : length (cells_after seed k (cell_count shape)) ≡ cell_count shape
  length_after = rw (← drawn_after k (cell_count shape) (generator_of seed)) (length-drawn (cell_count shape) _)

  input_after : IsMatrixShape shape → IsInput (matrix_after seed k shape)
  input_after is = record { shape = is; cells = length_after; fits = λ j d within. small_fits (get_or (cells_after seed k (cell_count shape)) j d) (small_after j d within) }

square_shape : (size : ℕ) → size ≤ 256 → IsMatrixShape (square size)
square_shape size most =
    let few : size * size ≤ 256 * 256 = mul-le-mul most most in
    record { dims = inr refl; width = omega arith; height = omega arith; cells = omega arith }

line_shape : (size : ℕ) → size ≤ 256 → IsMatrixShape (line size)
line_shape size most = record { dims = inl (refl, refl); width = omega arith; height = omega arith; cells = omega arith }

module _ (P : MatrixValue → Type 0) where
  none_left : All P []
  none_left k d within = absurd (omega arith)

  each_matrix : (which seed size : ℕ) → ((k : ℕ) → P (matrix_after seed k (square size))) → ((k : ℕ) → P (matrix_after seed k (line size))) → All P (example_of which seed size)
  each_matrix zero seed size squares lines =
      All-cons P (matrix_after seed 0 (square size)) (matrix_after seed (size * size) (square size) ∷ []) (squares 0)
      (All-cons P (matrix_after seed (size * size) (square size)) [] (squares (size * size)) none_left)
  each_matrix (suc which) seed size squares lines = All-cons P (matrix_after seed (2 * (size * size)) (line size)) [] (lines (2 * (size * size))) none_left

pub examples_are_inputs : (which seed size : ℕ) → size ≤ 256 → All IsInput (example_of which seed size)
examples_are_inputs which seed size most =
    each_matrix IsInput which seed size (λ k. input_after seed k (square size) (square_shape size most)) (λ k. input_after seed k (line size) (line_shape size most))

pub examples_are_small : (which seed size : ℕ) → All IsSmall (example_of which seed size)
examples_are_small which seed size = each_matrix IsSmall which seed size (λ k. small_after seed k (square size)) (λ k. small_after seed k (line size))
