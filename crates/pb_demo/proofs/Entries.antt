-- The matrices that are drawn fit.
use Rattle.std.proofs.Common.{◌≡◌, refl, sym, subst, ℕ, zero, suc, ◌+◌, ◌≤◌, ◌<◌, inl, inr, List, [], ◌∷◌, length, take, drop, slice_get, slice_index, Some, ℤ, pos, Bool, true, ◌&&◌, arith}
use Rattle.std.specs.Ordering.{int_eq}
use Rattle.std.specs.List.{AllByRecursion, list_all}
use Rattle.pb_syntax.proofs.TestLemmas.{and_parts}
use Rattle.std.proofs.lemmas.Int.{ints}
use Rattle.pb_linear.specs.Numbers.{Numbers, coefficient, value_before}
use Rattle.pb_linear.specs.Sizes.{InRange, leasts_of}
use Rattle.pb_linear.specs.declared.sizes.TheConstants.{SIZE_TOP}
use Rattle.pb_program.specs.WellFormed.{size_numbers}
use Rattle.pb_entry.specs.Entering.{Enters}
use Rattle.pb_entry.specs.Fitting.{AreBound, Given, HasDims, HasSides, HasValue, Lacks, given}
use Rattle.pb_gen.specs.Examples.{example_of}
use Rattle.pb_grammar.specs.Want.{after_mark, expression, conjunction, compared, total, product, name_token, dimensions}
use Rattle.pb_demo.specs.Demonstrations.{demo_transform}
use Rattle.pb_demo.proofs.Grids.{all_of}
use Rattle.pb_demo.proofs.Product.{alone, is_written, multiply, written}
use Rattle.pb_demo.proofs.Sound.{decl_or, roll, roll_leasts}
use Rattle.pb_demo.proofs.Trees.{program}

pub roll_there : slice_get (program 1) 0 ≡ Some roll
unfolding after_mark expression conjunction compared total product name_token dimensions
roll_there = refl

pub multiply_there : slice_get (program 0) 1 ≡ Some multiply
unfolding after_mark expression conjunction compared total product name_token dimensions
multiply_there = refl

pub roll_enters : (seed size : ℕ) → Enters (program 1) (demo_transform 1) (length (example_of 1 seed size)) 0
unfolding after_mark expression conjunction compared total product name_token dimensions
roll_enters seed size = record { named = record { transform = roll; there = refl; named = refl }; count = refl }

pub multiply_enters : (seed size : ℕ) → Enters (program 0) (demo_transform 0) (length (example_of 0 seed size)) 1
unfolding after_mark expression conjunction compared total product name_token dimensions
multiply_enters seed size = record { named = record { transform = multiply; there = refl; named = refl }; count = refl }

-- ---- a form that is a size alone
abbrev is_zeros : List ℤ → Bool
is_zeros row = list_all (λ z. int_eq z (pos 0)) row

zeros : (row : List ℤ) → is_zeros row ≡ true → AllByRecursion (λ z. z ≡ pos 0) row
zeros [] e = tt
zeros (z ∷ row) e = let both = and_parts (int_eq z (pos 0)) (is_zeros row) e in (grind (arith, ints, both.0), zeros row both.1)

is_size : (k : ℕ) (n : Numbers) → n.constant ≡ pos 0 → coefficient n.whole k ≡ pos 1 → (is_zeros (take k n.whole) && is_zeros (drop (k + 1) n.whole)) ≡ true → (is_zeros n.half && (is_zeros n.third && is_zeros n.quarter)) ≡ true → size_numbers k n
is_size k n constant one whole rest =
    let sides = and_parts (is_zeros (take k n.whole)) (is_zeros (drop (k + 1) n.whole)) whole in
    let parts = and_parts (is_zeros n.half) (is_zeros n.third && is_zeros n.quarter) rest in
    let last = and_parts (is_zeros n.third) (is_zeros n.quarter) parts.1 in
    (constant, one, zeros (take k n.whole) sides.0, zeros (drop (k + 1) n.whole) sides.1, zeros n.half parts.0, zeros n.third last.0, zeros n.quarter last.1)

no_size : (k : ℕ) (n : Numbers) → coefficient n.whole k ≡ pos 0 → size_numbers k n → ⊥
no_size k n none s = omega (arith, ints, none, s.1)

module _ (seed size : ℕ) (some : 1 ≤ size) (few : size ≤ SIZE_TOP) where
  -- ---- the rolling sum
  abbrev of_roll : List Given
  of_roll = given roll (example_of 1 seed size)

  roll_dims : AllByRecursion HasDims of_roll
  unfolding after_mark expression conjunction compared total product name_token dimensions
  roll_dims = (refl, tt)

  roll_sides : AllByRecursion (HasSides (size ∷ [])) of_roll
  unfolding after_mark expression conjunction compared total product name_token dimensions value_before
  roll_sides = ((omega (arith, ints), omega (arith, ints)), tt)

  roll_value : (k : ℕ) → k < 1 → HasValue of_roll k (slice_index (size ∷ []) k)
  unfolding after_mark expression conjunction compared total product name_token dimensions
  roll_value zero below = record { place = 0; item = _; there = refl; fails = inl (is_size 0 (decl_or (slice_get roll.matrices 0)).w refl refl refl refl, refl); earlier = all_of (Lacks 0) [] tt }
  roll_value (suc k) below = absurd (omega (arith, below))

  roll_range : InRange (leasts_of roll.ranges) (size ∷ [])
  roll_range = subst (λ l. InRange l (size ∷ [])) (sym roll_leasts) (some, few, tt)

  roll_counted : length roll.sizes ≡ 1
  unfolding after_mark expression conjunction compared total product name_token dimensions
  roll_counted = refl

  pub roll_bound : AreBound roll (example_of 1 seed size) (size ∷ [])
  roll_bound = record {
    dims = all_of HasDims of_roll roll_dims;
    values = record { counted = sym roll_counted; each = subst (λ n. (k : ℕ) → k < n → HasValue of_roll k (slice_index (size ∷ []) k)) (sym roll_counted) roll_value };
    range = roll_range;
    sides = all_of (HasSides (size ∷ [])) of_roll roll_sides;
  }

  -- ---- the product
  abbrev three : List ℕ
  three = size ∷ size ∷ size ∷ []

  abbrev of_product : List Given
  of_product = given written (example_of 0 seed size)

  product_dims : AllByRecursion HasDims of_product
  product_dims = (refl, (refl, tt))

  product_sides : AllByRecursion (HasSides three) of_product
  unfolding value_before
  product_sides = ((omega (arith, ints), omega (arith, ints)), ((omega (arith, ints), omega (arith, ints)), tt))

  product_value : (k : ℕ) → k < 3 → HasValue of_product k (slice_index three k)
  product_value zero below = record { place = 0; item = _; there = refl; fails = inl (is_size 0 (alone 0) refl refl refl refl, refl); earlier = all_of (Lacks 0) [] tt }
  product_value (suc zero) below = record { place = 0; item = _; there = refl; fails = inr (no_size 1 (alone 0) refl, is_size 1 (alone 1) refl refl refl refl, refl); earlier = all_of (Lacks 1) [] tt }
  product_value (suc (suc zero)) below = record { place = 1; item = _; there = refl; fails = inl (is_size 2 (alone 2) refl refl refl refl, refl); earlier = all_of (Lacks 2) (take 1 of_product) ((no_size 2 (alone 0) refl, no_size 2 (alone 1) refl), tt) }
  product_value (suc (suc (suc k))) below = absurd (omega (arith, below))

  product_counted : length written.sizes ≡ 3
  unfolding after_mark expression conjunction compared total product name_token dimensions
  product_counted = refl

  written_bound : AreBound written (example_of 0 seed size) three
  written_bound = record {
    dims = all_of HasDims of_product product_dims;
    values = record { counted = sym product_counted; each = subst (λ n. (k : ℕ) → k < n → HasValue of_product k (slice_index three k)) (sym product_counted) product_value };
    range = (some, few, (some, few, (some, few, tt)));
    sides = all_of (HasSides three) of_product product_sides;
  }

  pub multiply_bound : AreBound multiply (example_of 0 seed size) three
  multiply_bound = subst (λ t. AreBound t (example_of 0 seed size) three) (sym is_written) written_bound
