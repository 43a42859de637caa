-- Differences of small forms, and forms compared by them.
use Rattle.std.proofs.Common.{◌≡◌, ℕ, List, [], ◌∷◌, true, None, ℤ, pos, negsuc, ◌+ℤ◌, ◌-ℤ◌, ◌*ℤ◌, ◌≤ℤ◌, int_le, refl, arith}
use Rattle.std.specs.List.{list_all}
use Rattle.std.proofs.lemmas.Int.{ints}
use Rattle.std.proofs.lemmas.Bool.{and_parts, le-leb, leb-true}
use Rattle.pb_linear.specs.Form.{HasNumbers, numbers, value}
use Rattle.pb_linear.specs.Limits.{is_number}
use Rattle.pb_linear.specs.Numbers.{difference, first_over, refusal, row_sum, row_multiple, with_constant}
use Rattle.pb_linear.specs.Sizes.{InRange, IsRanges, le_everywhere, leasts_of}
use Rattle.pb_linear.specs.declared.form.Form.{Form}
use Rattle.pb_linear.specs.declared.sizes.Ranges.{Ranges}
use Rattle.pb_linear.proofs.Held.{least_low}
use Rattle.pb_linear.proofs.SizesLemmas.{InRange-from, everywhere_is, le_everywhere-difference}
use Rattle.pb_linear.proofs.Values.{exact_value-with_constant, value-sum, value_is}
use Rattle.pb_grid.specs.Cuts.{AreParallel, AreSmall, is_half_number, le}

-- a number that may stand in a difference
number_fits : (a b : ℤ) → is_half_number a ≡ true → is_half_number b ≡ true → is_number (a +ℤ negsuc 0 *ℤ b) ≡ true
number_fits a b h k = le-leb _ _ (omega (arith, ints, leb-true _ _ h, leb-true _ _ k))

-- the same where one of the two numbers isn't there
left_fits : (a : ℤ) → is_half_number a ≡ true → is_number a ≡ true
left_fits a h = le-leb _ _ (omega (arith, leb-true _ _ h))

right_fits : (b : ℤ) → is_half_number b ≡ true → is_number (negsuc 0 *ℤ b) ≡ true
right_fits b k = le-leb _ _ (omega (arith, ints, leb-true _ _ k))

left_row : (xs : List ℤ) → list_all is_half_number xs ≡ true → first_over xs ≡ None
left_row [] h = refl
left_row (x ∷ xs) h = let parts = and_parts (is_half_number x) (list_all is_half_number xs) h in rw (left_fits x parts.0) (left_row xs parts.1)

row_fits : (xs ys : List ℤ) → list_all is_half_number xs ≡ true → list_all is_half_number ys ≡ true → first_over (row_sum xs (row_multiple (negsuc 0) ys)) ≡ None
row_fits [] [] h k = refl
row_fits [] (y ∷ ys) h k =
    let parts = and_parts (is_half_number y) (list_all is_half_number ys) k in
    rw (right_fits y parts.0) (row_fits [] ys h parts.1)
row_fits (x ∷ xs) [] h k = left_row (x ∷ xs) h
row_fits (x ∷ xs) (y ∷ ys) h k =
    let left = and_parts (is_half_number x) (list_all is_half_number xs) h in
    let right = and_parts (is_half_number y) (list_all is_half_number ys) k in
    rw (number_fits x y left.0 right.0) (row_fits xs ys left.1 right.1)

pub no_refusal : (a b : Form) → AreSmall a → AreSmall b → refusal (difference (numbers a) (numbers b)) ≡ None
no_refusal a b h k =
    rw (number_fits a.constant b.constant h.constant k.constant, row_fits a.whole b.whole h.whole k.whole, row_fits a.half b.half h.half k.half, row_fits a.third b.third h.third k.third, row_fits a.quarter b.quarter h.quarter k.quarter) refl

-- the value of a difference
pub difference_value : (a b f : Form) → HasNumbers (difference (numbers a) (numbers b)) f → (sizes : List ℕ) → value f sizes ≡ value a sizes -ℤ value b sizes
difference_value a b f has sizes = omega (arith, ints, value-sum a b f (negsuc 0) has sizes)

pub le_by_difference : (leasts : List ℕ) (a b f : Form) → HasNumbers (difference (numbers a) (numbers b)) f → le_everywhere leasts (value f) (λ _. pos 0) ≡ le leasts a b
unfolding le
le_by_difference leasts a b f has = le_everywhere-difference leasts (value a) (value b) (value f) (difference_value a b f has)

-- ---- forms that differ by a constant
parallel_value : (a b : Form) → AreParallel a b → (sizes : List ℕ) → value a sizes +ℤ b.constant ≡ value b sizes +ℤ a.constant
parallel_value a b h sizes =
    let has : HasNumbers (with_constant a.constant (numbers b)) a = record { constant = refl; whole = h.whole; half = h.half; third = h.third; quarter = h.quarter } in
    omega (arith, ints, value_is (with_constant a.constant (numbers b)) a has sizes, exact_value-with_constant a.constant (numbers b) sizes)

-- the least sizes are in range
leasts_in_range : (r : Ranges) → IsRanges r → InRange (leasts_of r) (leasts_of r)
leasts_in_range r ok = InRange-from (leasts_of r) (leasts_of r) refl (λ i below. (omega arith, least_low r ok i below))

pub le_by_constants : (r : Ranges) (a b : Form) → IsRanges r → AreParallel a b → int_le a.constant b.constant ≡ le (leasts_of r) a b
unfolding le
le_by_constants r a b ok h =
    everywhere_is (int_le a.constant b.constant) (leasts_of r) (λ s. int_le (value a s) (value b s))
    (λ low s range. let e = parallel_value a b h s in let below : a.constant ≤ℤ b.constant = grind (arith, ints) in let at : value a s ≤ℤ value b s = omega (arith, ints) in grind (arith, ints))
    (λ each. let here = each (leasts_of r) (leasts_in_range r ok) in let at : value a (leasts_of r) ≤ℤ value b (leasts_of r) = grind (arith, ints) in let e = parallel_value a b h (leasts_of r) in let below : a.constant ≤ℤ b.constant = omega (arith, ints) in grind (arith, ints))
