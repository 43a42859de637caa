-- Matrices that are given for sizes in range can enter a transform, and bind just these sizes.
use Rattle.std.proofs.Common.{◌≡◌, ◌≢◌, ◌∙◌, refl, sym, ap, subst, inl, inr, ◌⊎◌, ⊎_elim, ℕ, zero, suc, ◌+◌, ◌*◌, ◌<◌, ◌≤◌, ℤ, pos, ◌+ℤ◌, true, false, ◌&&◌, List, [], ◌∷◌, ◌++◌, drop, take, map, length, slice_get, Some, None, arith}
use Rattle.std.proofs.lemmas.List.{ext_get_or, get_or_past, length-take-le}
use Rattle.std.proofs.lemmas.List.FromFn.{get_or-map-range_with_len, length-map-range_with_len}
use Rattle.std.proofs.lemmas.Option.{slice_get_within}
use Rattle.std.specs.Prelude.{◌==◌, Bool, negsuc, ◌≤ℤ◌, nat_le, slice_index, slice_index_or, Option, unwrap_or, IsTrue}
use Rattle.std.specs.List.{AllByRecursion, list_all, range_with_len, zip}
use Rattle.std.specs.Ordering.{int_eq}
use Rattle.std.specs.Option.{option_or}
use Rattle.std.proofs.lemmas.Bool.{and_parts, cases_lt, cases_order}
use Rattle.std.proofs.lemmas.Bool.Decides.{Decides-int_eq, nat_tests}
use Rattle.std.proofs.lemmas.Int.{ints}
use Rattle.pb_linear.proofs.SizesLemmas.{InRange-length}
use Rattle.pb_linear.specs.Numbers.{Numbers, coefficient, exact_value, part_of, value_before}
use Rattle.pb_linear.specs.Sizes.{InRange, leasts_of}
use Rattle.pb_linear.specs.declared.sizes.TheConstants.{SIZE_TOP}
use Rattle.pb_program.specs.Forms.{DeclValue}
use Rattle.pb_program.specs.Trees.{ProgTransform}
use Rattle.pb_program.specs.WellFormed.{IsBound, IsDecl, IsTransform, size_numbers}
use Rattle.pb_model.specs.Calls.{Outcomes}
use Rattle.pb_model.specs.Cells.{natural}
use Rattle.pb_region.specs.Dims.{AreSides, HasNoNegative}
use Rattle.pb_region.proofs.SmallLemmas.{at_place}
use Rattle.pb_calls.proofs.Handed.{all_at}
use Rattle.pb_calls.proofs.SideLemmas.{tall, width_natural}
use Rattle.pb_calls.specs.Given.{AreGiven, HasSides}
use Rattle.pb_recursion.specs.Depths.{sides_of_matrix, sizes_given}
use Rattle.pb_recursion.specs.Shapes.{Sides, all_same_sides, are_in_range, can_enter, first_side_for, is_unit_row, is_zero_row, side_for, same_sides, sides_of_decl, sizes_from, stands_alone}

-- ---- a size variable alone
is_zero : (z : ℤ) → int_eq z (pos 0) ≡ true → z ≡ pos 0
is_zero z h = (Decides-int_eq z (pos 0)).0 h

zero_is : (z : ℤ) → z ≡ pos 0 → int_eq z (pos 0) ≡ true
zero_is z h = (Decides-int_eq z (pos 0)).1 h

zero_at : (row : List ℤ) → is_zero_row row ≡ true → (i : ℕ) → coefficient row i ≡ pos 0
zero_at [] h i = refl
zero_at (z ∷ row) h zero = is_zero z (and_parts (int_eq z (pos 0)) (is_zero_row row) h).0
zero_at (z ∷ row) h (suc i) = zero_at row (and_parts (int_eq z (pos 0)) (is_zero_row row) h).1 i

-- all but the k-th are zero
others_zero : (row : List ℤ) (k i : ℕ) → is_zero_row (take k row ++ drop (suc k) row) ≡ true → i ≢ k → coefficient row i ≡ pos 0
others_zero [] k i h other = refl
others_zero (z ∷ row) zero zero h other = absurd (other refl)
others_zero (z ∷ row) zero (suc i) h other = zero_at row h i
others_zero (z ∷ row) (suc k) zero h other = is_zero z (and_parts (int_eq z (pos 0)) (is_zero_row (take k row ++ drop (suc k) row)) h).0
others_zero (z ∷ row) (suc k) (suc i) h other = others_zero row k i (and_parts (int_eq z (pos 0)) (is_zero_row (take k row ++ drop (suc k) row)) h).1 (λ same. other (ap suc same))

-- what a variable adds whose coefficients are 0
no_part : (n : Numbers) (i size : ℕ) → coefficient n.whole i ≡ pos 0 → coefficient n.half i ≡ pos 0 → coefficient n.third i ≡ pos 0 → coefficient n.quarter i ≡ pos 0 → part_of n i size ≡ pos 0
no_part n i size w h t q = rw (w, h, t, q) (omega (arith, ints))

one_part : (n : Numbers) (i size : ℕ) → coefficient n.whole i ≡ pos 1 → coefficient n.half i ≡ pos 0 → coefficient n.third i ≡ pos 0 → coefficient n.quarter i ≡ pos 0 → part_of n i size ≡ pos size
one_part n i size w h t q = rw (w, h, t, q) (omega (arith, ints))

module _ (k : ℕ) (n : Numbers) (alone : stands_alone k n ≡ true) where
  tests : (int_eq n.constant (pos 0) ≡ true) × (is_unit_row k n.whole && is_zero_row (n.half ++ (n.third ++ n.quarter)) ≡ true)
  tests = and_parts (int_eq n.constant (pos 0)) (is_unit_row k n.whole && is_zero_row (n.half ++ (n.third ++ n.quarter))) alone

  rows : (is_unit_row k n.whole ≡ true) × (is_zero_row (n.half ++ (n.third ++ n.quarter)) ≡ true)
  rows = and_parts (is_unit_row k n.whole) (is_zero_row (n.half ++ (n.third ++ n.quarter))) tests.1

  unit : (int_eq (coefficient n.whole k) (pos 1) ≡ true) × (is_zero_row (take k n.whole ++ drop (k + 1) n.whole) ≡ true)
  unit = and_parts (int_eq (coefficient n.whole k) (pos 1)) (is_zero_row (take k n.whole ++ drop (k + 1) n.whole)) rows.0

  row_parts : (xs ys : List ℤ) → is_zero_row (xs ++ ys) ≡ true → (is_zero_row xs ≡ true) × (is_zero_row ys ≡ true)
  row_parts [] ys h = (refl, h)
  row_parts (x ∷ xs) ys h =
      let first = and_parts (int_eq x (pos 0)) (is_zero_row (xs ++ ys)) h in
      let rest = row_parts xs ys first.1 in
      (rw (first.0, rest.0) refl, rest.1)

  half_zero : is_zero_row n.half ≡ true
  half_zero = (row_parts n.half (n.third ++ n.quarter) rows.1).0

  third_zero : is_zero_row n.third ≡ true
  third_zero = (row_parts n.third n.quarter (row_parts n.half (n.third ++ n.quarter) rows.1).1).0

  quarter_zero : is_zero_row n.quarter ≡ true
  quarter_zero = (row_parts n.third n.quarter (row_parts n.half (n.third ++ n.quarter) rows.1).1).1

  one_is : int_eq (coefficient n.whole k) (pos 1) ≡ true → coefficient n.whole k ≡ pos 1
  one_is h = (Decides-int_eq (coefficient n.whole k) (pos 1)).0 h

  other_part : (sizes : List ℕ) (i : ℕ) → i ≢ k → part_of n i (slice_index sizes i) ≡ pos 0
  other_part sizes i other =
      let step : k + 1 ≡ suc k = omega arith in
      no_part n i (slice_index sizes i) (others_zero n.whole k i (subst (λ j. is_zero_row (take k n.whole ++ drop j n.whole) ≡ true) step unit.1) other) (zero_at n.half half_zero i) (zero_at n.third third_zero i) (zero_at n.quarter quarter_zero i)

  -- the parts of the variables before it, and after
  before_it : (sizes : List ℕ) (i : ℕ) → i ≤ k → value_before i n sizes ≡ pos 0
  unfolding value_before
  before_it sizes zero low = is_zero n.constant tests.0
  before_it sizes (suc i) low =
      let rest = before_it sizes i (omega (arith, low)) in
      let nothing = other_part sizes i (λ same. omega (arith, low, same)) in
      omega (arith, ints, rest, nothing)

  with_it : (sizes : List ℕ) (i : ℕ) → k < i → value_before i n sizes ≡ pos (slice_index sizes k)
  unfolding value_before
  with_it sizes zero high = absurd (omega (arith, high))
  with_it sizes (suc i) high = by_case (λ less. with_it sizes i less) (cases_order k i)
    where
      by_case : (k < i → value_before i n sizes ≡ pos (slice_index sizes k)) → (k ≡ i) ⊎ ((k < i) ⊎ (i < k)) → value_before i n sizes +ℤ part_of n i (slice_index sizes i) ≡ pos (slice_index sizes k)
      by_case earlier (inl same) =
          let rest = before_it sizes i (omega (arith, same)) in
          let this = subst (λ j. part_of n j (slice_index sizes j) ≡ pos (slice_index sizes j)) same (one_part n k (slice_index sizes k) (one_is unit.0) (zero_at n.half half_zero k) (zero_at n.third third_zero k) (zero_at n.quarter quarter_zero k)) in
          omega (arith, ints, rest, this, ap (λ j. slice_index sizes j) same)
      by_case earlier (inr (inl less)) =
          let rest = earlier less in
          let nothing = other_part sizes i (λ same. omega (arith, less, same)) in
          omega (arith, ints, rest, nothing)
      by_case earlier (inr (inr more)) = absurd (omega (arith, high, more))

  pub alone_value : (sizes : List ℕ) → k < 8 → exact_value n sizes ≡ pos (slice_index sizes k)
  alone_value sizes few = with_it sizes 8 few

-- a form of which the coefficient of a variable is 1 and all others are 0 is the variable alone
zeros_row : (row : List ℤ) → AllByRecursion (λ z. z ≡ pos 0) row → is_zero_row row ≡ true
zeros_row [] h = refl
zeros_row (z ∷ row) h = rw (zero_is z h.0, zeros_row row h.1) refl

joined_rows : (xs ys : List ℤ) → is_zero_row xs ≡ true → is_zero_row ys ≡ true → is_zero_row (xs ++ ys) ≡ true
joined_rows [] ys hx hy = hy
joined_rows (x ∷ xs) ys hx hy = let both = and_parts (int_eq x (pos 0)) (is_zero_row xs) hx in rw (both.0, joined_rows xs ys both.1 hy) refl

pub alone_is : (k : ℕ) (n : Numbers) → size_numbers k n → stands_alone k n ≡ true
alone_is k n h =
    let c = zero_is n.constant h.0 in
    let one = (Decides-int_eq (coefficient n.whole k) (pos 1)).1 h.1 in
    let rest = joined_rows (take k n.whole) (drop (k + 1) n.whole) (zeros_row (take k n.whole) h.2) (zeros_row (drop (k + 1) n.whole) h.3) in
    let quotients = joined_rows n.half (n.third ++ n.quarter) (zeros_row n.half h.4) (joined_rows n.third n.quarter (zeros_row n.third h.5) (zeros_row n.quarter h.6)) in
    rw (c, one, rest, quotients) refl

-- ---- the sizes that are bound
module _ (sizes : List ℕ) (k : ℕ) (few : k < 8) where
  -- a matrix has no such side, or the size is that side
  module _ (d : DeclValue) (g : Outcomes) (has : HasSides sizes d g) where
    by_tests : (a b : Bool) → stands_alone k d.w ≡ a → stands_alone k d.h ≡ b → ((a ≡ false) × (b ≡ false) × (side_for k (d, sides_of_matrix g) ≡ None)) ⊎ (side_for k (d, sides_of_matrix g) ≡ Some (slice_index sizes k))
    by_tests true b wide tall = inr (rw wide (ap Some (has.width ∙ ap natural (alone_value k d.w wide sizes few))))
    by_tests false true wide tall = inr (rw (wide, tall) (ap Some (has.height ∙ ap natural (alone_value k d.h tall sizes few))))
    by_tests false false wide tall = inl (refl, refl, rw (wide, tall) refl)

    pub side_known : (side_for k (d, sides_of_matrix g) ≡ None) ⊎ (side_for k (d, sides_of_matrix g) ≡ Some (slice_index sizes k))
    side_known = by (by_tests (stands_alone k d.w) (stands_alone k d.h) refl refl)
      where
        by : ((stands_alone k d.w ≡ false) × (stands_alone k d.h ≡ false) × (side_for k (d, sides_of_matrix g) ≡ None)) ⊎ (side_for k (d, sides_of_matrix g) ≡ Some (slice_index sizes k)) → (side_for k (d, sides_of_matrix g) ≡ None) ⊎ (side_for k (d, sides_of_matrix g) ≡ Some (slice_index sizes k))
        by (inl none) = inl none.2
        by (inr some) = inr some

    pub side_alone : size_numbers k d.w ⊎ size_numbers k d.h → side_for k (d, sides_of_matrix g) ≡ Some (slice_index sizes k)
    side_alone alone = by (by_tests (stands_alone k d.w) (stands_alone k d.h) refl refl)
      where
        never : stands_alone k d.w ≡ false → stands_alone k d.h ≡ false → ⊥
        never wide tall = which alone
          where
            which : size_numbers k d.w ⊎ size_numbers k d.h → ⊥
            which (inl w) = let both : true ≡ false = sym (alone_is k d.w w) ∙ wide in cc
            which (inr h) = let both : true ≡ false = sym (alone_is k d.h h) ∙ tall in cc

        by : ((stands_alone k d.w ≡ false) × (stands_alone k d.h ≡ false) × (side_for k (d, sides_of_matrix g) ≡ None)) ⊎ (side_for k (d, sides_of_matrix g) ≡ Some (slice_index sizes k)) → side_for k (d, sides_of_matrix g) ≡ Some (slice_index sizes k)
        by (inl none) = absurd (never none.0 none.1)
        by (inr some) = some

  -- the first of some matrices that has such a side
  first_is : (ms : List (DeclValue × Sides)) → ((i : ℕ) (m : DeclValue × Sides) → slice_get ms i ≡ Some m → (side_for k m ≡ None) ⊎ (side_for k m ≡ Some (slice_index sizes k)))
      → (j : ℕ) (m : DeclValue × Sides) → slice_get ms j ≡ Some m → side_for k m ≡ Some (slice_index sizes k) → first_side_for k ms ≡ Some (slice_index sizes k)
  first_is [] each j m at side = absurd (let wrong : None ≡ Some m = at in cc)
  first_is (a ∷ ms) each zero m at side = let is : Some a ≡ Some m = at in let same : a ≡ m = cc in rw (ap (side_for k) same ∙ side) refl
  first_is (a ∷ ms) each (suc j) m at side = by (first_is ms (λ i. each (suc i)) j m at side) (each 0 a refl)
    where
      by : first_side_for k ms ≡ Some (slice_index sizes k) → (side_for k a ≡ None) ⊎ (side_for k a ≡ Some (slice_index sizes k)) → option_or (side_for k a) (first_side_for k ms) ≡ Some (slice_index sizes k)
      by later (inl none) = rw none later
      by later (inr some) = rw some refl

-- ---- two lists side by side
zip_at : (ds : List DeclValue) (gs : List Outcomes) (i : ℕ) (m : DeclValue × Sides) → slice_get (zip ds (map sides_of_matrix gs)) i ≡ Some m
    → (d : DeclValue) × (g : Outcomes) × (slice_get ds i ≡ Some d) × (slice_get gs i ≡ Some g) × (m ≡ (d, sides_of_matrix g))
zip_at [] gs i m at = absurd (let wrong : None ≡ Some m = at in cc)
zip_at (d ∷ ds) [] i m at = absurd (let wrong : None ≡ Some m = at in cc)
zip_at (d ∷ ds) (g ∷ gs) zero m at = let is : Some (d, sides_of_matrix g) ≡ Some m = at in (d, g, refl, refl, cc)
zip_at (d ∷ ds) (g ∷ gs) (suc i) m at = zip_at ds gs i m at

zip_there : (ds : List DeclValue) (gs : List Outcomes) (i : ℕ) (d : DeclValue) → slice_get ds i ≡ Some d → i < length gs → (g : Outcomes) × (slice_get gs i ≡ Some g) × (slice_get (zip ds (map sides_of_matrix gs)) i ≡ Some (d, sides_of_matrix g))
zip_there [] gs i d at low = absurd (let wrong : None ≡ Some d = at in cc)
zip_there (a ∷ ds) [] i d at low = absurd (omega (arith, low))
zip_there (a ∷ ds) (g ∷ gs) zero d at low = let is : Some a ≡ Some d = at in let same : a ≡ d = cc in (g, refl, ap (λ z. Some (z, sides_of_matrix g)) same)
zip_there (a ∷ ds) (g ∷ gs) (suc i) d at low = zip_there ds gs i d at (omega (arith, low))

of_take : {A : Type 0} (n : ℕ) (xs : List A) (i : ℕ) (x : A) → slice_get (take n xs) i ≡ Some x → slice_get xs i ≡ Some x
of_take zero xs i x at = absurd (let wrong : None ≡ Some x = at in cc)
of_take (suc n) [] i x at = at
of_take (suc n) (y ∷ xs) zero x at = at
of_take (suc n) (y ∷ xs) (suc i) x at = of_take n xs i x at

-- ---- tests that pass
le_is : (a b : ℕ) → a ≤ b → nat_le a b ≡ true
le_is a b h = grind (arith, nat_tests, h)

in_range_is : (leasts sizes : List ℕ) → InRange leasts sizes → are_in_range leasts sizes ≡ true
in_range_is [] [] h = refl
in_range_is [] (s ∷ ss) h = absurd h
in_range_is (l ∷ ls) [] h = absurd h
in_range_is (l ∷ ls) (s ∷ ss) h = rw (le_is l s h.0, le_is s SIZE_TOP h.1, in_range_is ls ss h.2) refl

is_same : (a b : ℤ) → a ≡ b → int_eq a b ≡ true
is_same a b h = (Decides-int_eq a b).1 h

same_all : (sizes : List ℕ) (ds : List DeclValue) (gs : List Outcomes) → length ds ≡ length gs
    → ((i : ℕ) (d : DeclValue) (g : Outcomes) → slice_get ds i ≡ Some d → slice_get gs i ≡ Some g → (exact_value d.w sizes ≡ pos g.width) × (exact_value d.h sizes ≡ pos g.height))
    → all_same_sides (map (sides_of_decl sizes) ds) (map sides_of_matrix gs) ≡ true
same_all sizes [] [] e each = refl
same_all sizes [] (g ∷ gs) e each = absurd (omega (arith, e))
same_all sizes (d ∷ ds) [] e each = absurd (omega (arith, e))
same_all sizes (d ∷ ds) (g ∷ gs) e each =
    let here = each 0 d g refl refl in
    rw (is_same (exact_value d.w sizes) (pos g.width) here.0, is_same (exact_value d.h sizes) (pos g.height) here.1, same_all sizes ds gs (omega (arith, e)) (λ i. each (suc i))) refl

natural_is : (z : ℤ) (n : ℕ) → pos 0 ≤ℤ z → n ≡ natural z → z ≡ pos n
natural_is (pos m) n h e = ap pos (sym e)
natural_is (negsuc m) n h e = absurd (omega (arith, ints, h))

-- ---- matrices that are given
module _ (transforms : ℕ) (t : ProgTransform) (well : IsTransform transforms t) (sides : AreSides t) (sizes : List ℕ) (range : InRange (leasts_of t.ranges) sizes) (ins : List Outcomes) (given : AreGiven t sizes ins) where
  abbrev decls : List DeclValue
  decls = take t.inputs t.matrices

  has_at : (i : ℕ) (d : DeclValue) (g : Outcomes) → slice_get decls i ≡ Some d → slice_get ins i ≡ Some g → HasSides sizes d g
  has_at i d g at_d at_g = given.each i d g (of_take t.inputs t.matrices i d at_d) at_g

  of_variable : (k : ℕ) → k < length t.sizes → first_side_for k (zip decls (map sides_of_matrix ins)) ≡ Some (slice_index sizes k)
  of_variable k low =
      let few : k < 8 = omega (arith, low, well.few_sizes) in
      let b = well.bound k low in
      let there = zip_there decls ins b.place b.decl b.there (omega (arith, slice_get_within decls b.place b.decl b.there, given.count, length-take-le t.inputs t.matrices (omega (arith, well.parts)))) in
      first_is sizes k few (zip decls (map sides_of_matrix ins))
      (λ i m at. let z = zip_at decls ins i m at in subst (λ (q : DeclValue × Sides). (side_for k q ≡ None) ⊎ (side_for k q ≡ Some (slice_index sizes k))) (sym z.4) (side_known sizes k few z.0 z.1 (has_at i z.0 z.1 z.2 z.3)))
      b.place (b.decl, sides_of_matrix there.0) there.2 (side_alone sizes k few b.decl there.0 (has_at b.place b.decl there.0 b.there there.1) b.alone)

  -- each variable has a least size
  full : t.ranges.count ≤ length t.ranges.least
  full = by (cases_lt (length t.ranges.least) t.ranges.count)
    where
      by : (length t.ranges.least < t.ranges.count) ⊎ (t.ranges.count ≤ length t.ranges.least) → t.ranges.count ≤ length t.ranges.least
      by (inl h) =
          let low = well.ranges.low (length t.ranges.least) (omega (arith, h, well.ranges.counted)) in
          let past = get_or_past t.ranges.least (length t.ranges.least) 0 (omega arith) in
          absurd (omega (arith, low.0, past))
      by (inr h) = h

  count_is : length sizes ≡ length t.sizes
  count_is = omega (arith, InRange-length (leasts_of t.ranges) sizes range, length-take-le t.ranges.count t.ranges.least full, well.ranges.counted)

  abbrev bound_by : ℕ → ℕ
  bound_by k = unwrap_or (first_side_for k (zip decls (map sides_of_matrix ins))) 0

  pub binds : sizes_given t ins ≡ sizes
  unfolding sizes_from
  binds = ext_get_or 0 (map bound_by (range_with_len 0 (length t.sizes))) sizes (length-map-range_with_len bound_by 0 (length t.sizes) ∙ sym count_is)
      (λ i low.
      let below : i < length t.sizes = omega (arith, low, length-map-range_with_len bound_by 0 (length t.sizes)) in
      get_or-map-range_with_len bound_by 0 (length t.sizes) i i 0 below (omega arith) ∙ ap (λ o. unwrap_or o 0) (of_variable i below))

  of_side : (i : ℕ) (d : DeclValue) (g : Outcomes) → slice_get decls i ≡ Some d → slice_get ins i ≡ Some g → (exact_value d.w sizes ≡ pos g.width) × (exact_value d.h sizes ≡ pos g.height)
  of_side i d g at_d at_g =
      let has = has_at i d g at_d at_g in
      let there = of_take t.inputs t.matrices i d at_d in
      let none = all_at (HasNoNegative (leasts_of t.ranges)) t.matrices i d sides.each there in
      let fits = at_place (IsDecl (length t.sizes)) t.matrices i d well.matrices there in (
        natural_is (exact_value d.w sizes) g.width (width_natural (length t.sizes) d (leasts_of t.ranges) sizes none range) has.width,
        natural_is (exact_value d.h sizes) g.height (tall (length t.sizes) d (leasts_of t.ranges) sizes (d.dims == 1) refl fits none range) has.height,
      )

  pub enters : can_enter t (map sides_of_matrix ins) ≡ true
  unfolding can_enter
  enters =
      let same = same_all sizes decls ins (omega (arith, given.count, length-take-le t.inputs t.matrices (omega (arith, well.parts)))) of_side in
      subst (λ (s : List ℕ). are_in_range (leasts_of t.ranges) s && all_same_sides (map (sides_of_decl s) (take t.inputs t.matrices)) (map sides_of_matrix ins) ≡ true) (sym binds)
      (rw (in_range_is (leasts_of t.ranges) sizes range, same) refl)
