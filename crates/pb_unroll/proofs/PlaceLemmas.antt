-- The place of a cell among matrices that stand one after the other.
use Rattle.std.proofs.Common.{◌≡◌, ◌∙◌, sym, ap, ⊎_elim, ℕ, zero, suc, ◌+◌, ◌-◌, ◌*◌, ◌/◌, ◌%◌, ◌<◌, ◌≤◌, true, false, List, [], ◌∷◌, length, slice_get, Option, Some, arith}
use Rattle.std.specs.Prelude.{nat_lt}
use Rattle.std.specs.Option.{option_map}
use Rattle.std.proofs.Math.Bool.{cond}
use Rattle.std.proofs.lemmas.Bool.{cases_lt}
use Rattle.std.proofs.lemmas.Bool.Decides.{nat_tests}
use Rattle.std.proofs.lemmas.Nat.{div-add-mod', div_below, mod_below}
use Rattle.pb_values.specs.declared.shape.Shape.{Shape}
use Rattle.pb_values.specs.declared.view.View.{View}
use Rattle.pb_program.specs.Forms.{DeclValue}
use Rattle.pb_matrix.specs.Header.{cell_count}
use Rattle.pb_model.specs.Calls.{cells_from, matrix_cells}
use Rattle.pb_model.specs.Cells.{Cell}
use Rattle.pb_model.proofs.GridLemmas.{place_at}
use Rattle.pb_views.specs.Layouts.{AreInARow, area_at, shape_of}
use Rattle.pb_unroll.specs.ShownCells.{place_in}
use Rattle.pb_solution.proofs.OutcomeLemmas.{get_left, get_right, matrix_is, rows_count}

-- a cell as its number of a matrix and its place
abbrev pub as_place : Cell → ℕ × ℕ × ℕ
as_place c = (c.matrix, c.x, c.y)

abbrev place_or : Shape → ℕ → ℕ → Option (ℕ × ℕ × ℕ) → Option (ℕ × ℕ × ℕ)
place_or s m k later = cond (nat_lt k (cell_count s)) (Some (m, k % s.w, k / s.w)) later

below_test : (a b : ℕ) → a < b → nat_lt a b ≡ true
below_test a b h = grind (arith, nat_tests)

past_test : (a b : ℕ) → b ≤ a → nat_lt a b ≡ false
past_test a b h = grind (arith, nat_tests)

pub some_side : (k w h : ℕ) → k < w * h → 0 < w
some_side k zero h below = omega arith
some_side k (suc w) h below = omega arith

module _ (sizes : List ℕ) where
  pub matrix_count : (m : ℕ) (d : DeclValue) → length (matrix_cells sizes m d) ≡ area_at sizes d
  matrix_count m d =
      let s = shape_of sizes d in
      let cell : ℕ → ℕ → Cell = λ x y. record { matrix = m; x = x; y = y } in
      let turned : s.h * s.w ≡ s.w * s.h = grind arith in
      ap length (matrix_is sizes m d) ∙ rows_count cell s.w 0 s.h ∙ turned

  place_here : (m : ℕ) (d : DeclValue) (k : ℕ) → k < area_at sizes d → slice_get (matrix_cells sizes m d) k ≡ Some (record { matrix = m; x = k % (shape_of sizes d).w; y = k / (shape_of sizes d).w })
  place_here m d k below =
      let s = shape_of sizes d in
      let cell : ℕ → ℕ → Cell = λ x y. record { matrix = m; x = x; y = y } in
      let some = some_side k s.w s.h below in
      let turned : s.h * s.w ≡ s.w * s.h = grind arith in
      let down : k / s.w < s.h = div_below k s.w s.h some (omega (arith, below, turned)) in
      ap (slice_get (matrix_cells sizes m d)) (sym (div-add-mod' k s.w)) ∙ ap (λ l. slice_get l (k / s.w * s.w + k % s.w)) (matrix_is sizes m d) ∙ place_at cell s.w s.h (k % s.w) (k / s.w) (mod_below k s.w some) down

  pub place_is : (first : ℕ) (ds : List DeclValue) (vs : List View) → AreInARow first sizes ds vs → (m k : ℕ) → place_in vs m k ≡ option_map as_place (slice_get (cells_from sizes m ds) k)
  place_is first [] vs row m k = ap (λ (l : List View). place_in l m k) row
  place_is first (d ∷ ds) [] row m k = absurd row
  place_is first (d ∷ ds) (v ∷ vs) row m k =
      let s = shape_of sizes d in
      let cells = matrix_cells sizes m d in
      let rest = cells_from sizes (m + 1) ds in
      ap (λ (q : Shape). place_or q m k (place_in vs (m + 1) (k - cell_count q))) row.0.shape
      ∙ ⊎_elim
      (λ (low : k < area_at sizes d).
      ap (λ b. cond b (Some (m, k % s.w, k / s.w)) (place_in vs (m + 1) (k - area_at sizes d))) (below_test k (area_at sizes d) low)
      ∙ sym (ap (option_map as_place) (get_left cells rest k (omega (arith, low, matrix_count m d)) ∙ place_here m d k low)))
      (λ (high : area_at sizes d ≤ k).
      let back : length cells + (k - area_at sizes d) ≡ k = omega (arith, high, matrix_count m d) in
      ap (λ b. cond b (Some (m, k % s.w, k / s.w)) (place_in vs (m + 1) (k - area_at sizes d))) (past_test k (area_at sizes d) high)
      ∙ place_is (first + area_at sizes d) ds vs row.1 (m + 1) (k - area_at sizes d)
      ∙ ap (option_map as_place) (sym (get_right cells rest (k - area_at sizes d)) ∙ ap (slice_get (cells_from sizes m (d ∷ ds))) back))
      (cases_lt k (area_at sizes d))
