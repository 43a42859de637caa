-- Cells of views by their places.
use Rattle.std.proofs.Common.{◌≡◌, ◌∙◌, refl, sym, ap, ℕ, zero, suc, ◌+◌, ◌*◌, ◌/◌, ◌%◌, ◌<◌, ◌≤◌, ℤ, pos, negsuc, ◌<ℤ◌, List, [], ◌∷◌, ◌++◌, length, length-append, map, get_or, ◌^◌, to_z, w64, Some, None, Ok, Err, arith, true, false, Bool}
use Rattle.std.specs.Prelude.{slice_index_or, slice_get, nat_lt, ◌&&◌, if◌then◌else◌}
use Rattle.std.specs.List.{flat_map, range_with_len}
use Rattle.std.specs.Option.{ok_or}
use Rattle.std.proofs.lemmas.Int.{ints, to_z_pos}
use Rattle.std.proofs.lemmas.Bool.Decides.{nat_tests}
use Rattle.std.proofs.lemmas.Option.{get_or_from_slice_get}
use Rattle.std.proofs.Math.Nat.{div-lt_iff_lt-mul}
use Rattle.pb_values.specs.Cells.{Turn}
use Rattle.pb_values.specs.declared.outcome.Kind.TheVariants.{OutOfView}
use Rattle.pb_linear.specs.declared.sizes.Sizes.{Sizes}
use Rattle.pb_program.specs.declared.meaning.Meaning.TheVariants as meaning
use Rattle.pb_model.specs.Bodies.{cell_in, number_of}
use Rattle.pb_model.specs.Grids.{Grid}
use Rattle.pb_statements.specs.Places.{grid_shown, height_of, IsShown, number_at, row_of, rows_of, width_of}
use Rattle.pb_values.specs.Views.{cell_of}
use Rattle.pb_values.specs.declared.view.View.{View}
use Rattle.pb_statements.specs.Shown.{Around, around_of, grid_told, number_told}
use Rattle.pb_statements.specs.Stored.{bound, store_of}
use Rattle.pb_statements.specs.declared.shown.Shown.{Shown}
use Rattle.pb_statements.specs.declared.shown.Shown.TheVariants.{Told, Kept, Nothing}
use Rattle.pb_statements.specs.declared.scratch.Scratch.{Scratch}
use Rattle.pb_statements.proofs.SceneLemmas.{read_grid, told_grid}

-- ---- a cell of a row, and of rows
in_map : (f : ℕ → ℤ) (k n x : ℕ) (rest : List ℤ) → x < n → slice_get (map f (range_with_len k n) ++ rest) x ≡ Some (f (k + x))
in_map f k zero x rest below = absurd (omega arith)
in_map f k (suc n) zero rest below = let e : k + 0 ≡ k = omega arith in rw e refl
in_map f k (suc n) (suc x) rest below = let e : k + 1 + x ≡ k + suc x = omega arith in in_map f (k + 1) n x rest (omega (arith, below)) ∙ ap (λ i. Some (f i)) e

length-mapped : (f : ℕ → ℤ) (k n : ℕ) → length (map f (range_with_len k n)) ≡ n
length-mapped f k zero = refl
length-mapped f k (suc n) = omega (arith, length-mapped f (k + 1) n)

past-row : (l rest : List ℤ) (i : ℕ) → slice_get (l ++ rest) (length l + i) ≡ slice_get rest i
past-row [] rest i = let e : 0 + i ≡ i = omega arith in rw e refl
past-row (n ∷ l) rest i = let e : length (n ∷ l) + i ≡ suc (length l + i) = omega arith in rw e (past-row l rest i)

module _ (f : ℕ → ℕ → ℤ) (w : ℕ) where
  length-row : (y : ℕ) → length (row_of f w y) ≡ w
  unfolding row_of
  length-row y = length-mapped (λ x. f x y) 0 w

  at_rows : (k n x y : ℕ) → x < w → y < n → slice_get (flat_map (row_of f w) (range_with_len k n)) (y * w + x) ≡ Some (f x (k + y))
  unfolding row_of
  at_rows k zero x y across down = absurd (omega arith)
  at_rows k (suc n) x zero across down =
      let e : 0 * w + x ≡ x = omega arith in
      let d : k + 0 ≡ k = omega arith in
      let z : 0 + x ≡ x = omega arith in
      ap (slice_get (row_of f w k ++ flat_map (row_of f w) (range_with_len (k + 1) n))) e ∙ in_map (λ i. f i k) 0 w x (flat_map (row_of f w) (range_with_len (k + 1) n)) across ∙ ap (λ i. Some (f i k)) z ∙ ap (λ j. Some (f x j)) (sym d)
  at_rows k (suc n) x (suc y) across down =
      let e : suc y * w + x ≡ length (row_of f w k) + (y * w + x) = omega (arith, length-row k) in
      let d : k + 1 + y ≡ k + suc y = omega arith in
      ap (slice_get (row_of f w k ++ flat_map (row_of f w) (range_with_len (k + 1) n))) e ∙ past-row (row_of f w k) (flat_map (row_of f w) (range_with_len (k + 1) n)) (y * w + x)
      ∙ at_rows (k + 1) n x y across (omega (arith, down)) ∙ ap (λ j. Some (f x j)) d

  length-rows : (k n : ℕ) → length (flat_map (row_of f w) (range_with_len k n)) ≡ n * w
  length-rows k zero = omega arith
  length-rows k (suc n) = omega (arith, length-append (row_of f w k) (flat_map (row_of f w) (range_with_len (k + 1) n)), length-row k, length-rows (k + 1) n)

-- ---- of what is shown
module _ (turn : Turn) (numbers : List ℤ) (s : Shown) where
  cells : List ℤ
  cells = (grid_shown turn numbers s).cells

  pub at_cells : (x y : ℕ) → x < width_of s → y < height_of s → slice_get (grid_shown turn numbers s).cells (y * width_of s + x) ≡ Some (number_at turn numbers s x y)
  unfolding grid_shown rows_of
  at_cells x y across down = let e : 0 + y ≡ y = omega arith in at_rows (number_at turn numbers s) (width_of s) 0 (height_of s) x y across down ∙ ap (λ j. Some (number_at turn numbers s x j)) e

  pub length-cells : length (grid_shown turn numbers s).cells ≡ height_of s * width_of s
  unfolding grid_shown rows_of
  length-cells = length-rows (number_at turn numbers s) (width_of s) 0 (height_of s)

  pub first_there : (n : ℤ) → n ≡ number_at turn numbers s 0 0 → 0 < width_of s → 0 < height_of s → n ≡ slice_index_or (grid_shown turn numbers s).cells 0 (pos 0)
  first_there n is across down =
      let e : 0 * width_of s + 0 ≡ 0 = omega arith in
      is ∙ sym (get_or_from_slice_get (grid_shown turn numbers s).cells 0 (number_at turn numbers s 0 0) (pos 0) (ap (slice_get (grid_shown turn numbers s).cells) (sym e) ∙ at_cells 0 0 across down))

  pub first_none : height_of s * width_of s ≡ 0 → pos 0 ≡ slice_index_or (grid_shown turn numbers s).cells 0 (pos 0)
  first_none none = none_first (grid_shown turn numbers s).cells (length-cells ∙ none)
    where
      none_first : (l : List ℤ) → length l ≡ 0 → pos 0 ≡ slice_index_or l 0 (pos 0)
      none_first [] e = refl
      none_first (n ∷ l) e = absurd (omega arith)

  pub cell_there : (x y : ℕ) (n : ℤ) → n ≡ number_at turn numbers s x y → x < width_of s → y < height_of s → Ok n ≡ cell_in (grid_shown turn numbers s) (pos x) (pos y)
  unfolding grid_shown
  cell_there x y n is across down = ap Ok is ∙ sym (ap (λ o. ok_or o OutOfView) (at_cells x y across down)) ∙ sym (inside (nat_lt x (width_of s) && nat_lt y (height_of s)) (grind (arith, nat_tests)))
    where
      inside : (b : Bool) → b ≡ true → ok_or (if b then slice_get (grid_shown turn numbers s).cells (y * width_of s + x) else None) OutOfView ≡ ok_or (slice_get (grid_shown turn numbers s).cells (y * width_of s + x)) OutOfView
      inside b e = rw e refl

  outside : (x y : ℕ) (b : Bool) → b ≡ false → ok_or (if b then slice_get (grid_shown turn numbers s).cells (y * width_of s + x) else None) OutOfView ≡ Err OutOfView
  outside x y b e = rw e refl

  pub cell_right : (x y : ℕ) → width_of s ≤ x → Err OutOfView ≡ cell_in (grid_shown turn numbers s) (pos x) (pos y)
  unfolding grid_shown
  cell_right x y out = sym (outside x y (nat_lt x (width_of s) && nat_lt y (height_of s)) (grind (arith, nat_tests)))

  pub cell_high : (x y : ℕ) → height_of s ≤ y → Err OutOfView ≡ cell_in (grid_shown turn numbers s) (pos x) (pos y)
  unfolding grid_shown
  cell_high x y out = sym (outside x y (nat_lt x (width_of s) && nat_lt y (height_of s)) (grind (arith, nat_tests)))

  cell_is : (i x y : ℕ) → x < width_of s → y < height_of s → i ≡ y * width_of s + x → number_at turn numbers s x y ≡ slice_index_or (grid_shown turn numbers s).cells i (pos 0)
  cell_is i x y across down e = sym (get_or_from_slice_get (grid_shown turn numbers s).cells i (number_at turn numbers s x y) (pos 0) (ap (slice_get (grid_shown turn numbers s).cells) e ∙ at_cells x y across down))

  pub nth_flat : (i h : ℕ) → h ≡ height_of s → h ≡ 1 → i < height_of s * width_of s → number_at turn numbers s i 0 ≡ slice_index_or (grid_shown turn numbers s).cells i (pos 0)
  nth_flat i h is one inside =
      let e : height_of s * width_of s ≡ width_of s = ap (λ n. n * width_of s) (sym is ∙ one) ∙ omega arith in
      cell_is i i 0 (omega (arith, inside)) (omega arith) (omega arith)

  pub nth_there : (i w v : ℕ) → w ≡ width_of s → v ≡ width_of s → i < height_of s * width_of s → number_at turn numbers s (i % w) (i / v) ≡ slice_index_or (grid_shown turn numbers s).cells i (pos 0)
  nth_there i w v ew ev inside =
      let some : 0 < width_of s = positive (width_of s) inside in
      let rest : i / width_of s < height_of s = (div-lt_iff_lt-mul some).1 inside in
      let parts : i ≡ i / width_of s * width_of s + i % width_of s = omega arith in
      rw (ew, ev) (cell_is i (i % width_of s) (i / width_of s) (omega arith) rest parts)
    where
      positive : (n : ℕ) → i < height_of s * n → 0 < n
      positive zero h = absurd (omega arith)
      positive (suc n) h = omega arith

  pub wide_shown : (t : Shown) → IsShown turn numbers t → width_of t < 2 ^ 63
  wide_shown (Told v) h = omega (arith, h.wide)
  wide_shown (Kept t) h = t.wide
  wide_shown Nothing h = omega arith

  pub tall_shown : (t : Shown) → IsShown turn numbers t → height_of t < 2 ^ 63
  tall_shown (Told v) h = omega (arith, h.tall)
  tall_shown (Kept t) h = t.tall
  tall_shown Nothing h = omega arith

  pub width_is : (g : Grid ℤ) (n : ℕ) → n ≡ width_of s → IsShown turn numbers s → grid_shown turn numbers s ≡ g → to_z w64 n ≡ pos g.width
  unfolding grid_shown
  width_is g n is shown e = ap (to_z w64) is ∙ to_z_pos w64 (width_of s) (wide_shown s shown) ∙ ap (λ (h : Grid ℤ). pos h.width) e

  pub height_is : (g : Grid ℤ) (n : ℕ) → n ≡ height_of s → IsShown turn numbers s → grid_shown turn numbers s ≡ g → to_z w64 n ≡ pos g.height
  unfolding grid_shown
  height_is g n is shown e = ap (to_z w64) is ∙ to_z_pos w64 (height_of s) (tall_shown s shown) ∙ ap (λ (h : Grid ℤ). pos h.height) e

-- ---- of a row that is told
module _ (turn : Turn) (numbers : List ℤ) (v : View) (flat : v.shape.h ≡ 1) where
  pub in_row : (i cell : ℕ) (n : ℤ) → i < v.shape.w → cell ≡ cell_of v i 0 → n ≡ number_told turn cell → n ≡ slice_index_or (grid_shown turn numbers (Told v)).cells i (pos 0)
  in_row i cell n below at is =
      let size : v.shape.h * v.shape.w ≡ v.shape.w = ap (λ h. h * v.shape.w) flat ∙ omega arith in
      let inside : i < v.shape.h * v.shape.w = omega (arith, size, below) in
      is ∙ ap (number_told turn) at ∙ nth_flat turn numbers (Told v) i v.shape.h refl flat inside

  pub length_row : length (grid_shown turn numbers (Told v)).cells ≡ v.shape.w
  length_row = length-cells turn numbers (Told v) ∙ ap (λ h. h * v.shape.w) flat ∙ omega arith

pub cell_left : (g : Grid ℤ) (i j : ℤ) → i <ℤ pos 0 → Err OutOfView ≡ cell_in g i j
cell_left g (pos n) j h = absurd (omega (arith, ints, h))
cell_left g (negsuc n) j h = refl

pub cell_low : (g : Grid ℤ) (i j : ℤ) → j <ℤ pos 0 → Err OutOfView ≡ cell_in g i j
cell_low g (pos n) (pos m) h = absurd (omega (arith, ints, h))
cell_low g (pos n) (negsuc m) h = refl
cell_low g (negsuc n) j h = refl

-- the first number that a view shows
pub first_told : (turn : Turn) (v : View) → 0 < v.shape.w → 0 < v.shape.h → slice_index_or (grid_told turn v).cells 0 (pos 0) ≡ number_told turn (cell_of v 0 0)
first_told turn v across down = ap (λ (g : Grid ℤ). slice_index_or g.cells 0 (pos 0)) (told_grid turn [] v) ∙ sym (first_there turn [] (Told v) (number_told turn (cell_of v 0 0)) refl across down)

-- the first cell of a read
pub first_read : (turn : Turn) (sizes : Sizes) (x y : ℕ) (views : List View) (a : Around) → around_of turn sizes x y views ≡ a → (k : ℕ) (v : View) (n : ℤ) → k < length views → v ≡ get_or views k v
    → 0 < v.shape.w → 0 < v.shape.h → n ≡ number_told turn (cell_of v 0 0) → (s : Scratch) → number_of (bound a s) (store_of s) (meaning.Read k) ≡ n
unfolding number_of
first_read turn sizes x y views a e k v n below is across down h s =
    ap (λ (g : Grid ℤ). slice_index_or g.cells 0 (pos 0)) (sym (read_grid turn sizes x y views a e s [] k v below is)) ∙ sym (first_there turn [] (Told v) n h across down)
