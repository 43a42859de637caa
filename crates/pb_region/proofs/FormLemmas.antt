-- Numbers of sums and differences of small forms.
use Rattle.std.proofs.Common.{◌≡◌, ◌≤◌, ◌^◌, ℕ, List, [], ◌∷◌, true, None, ℤ, negsuc, ◌+ℤ◌, ◌-ℤ◌, ◌*ℤ◌, unsigned_abs, refl, arith}
use Rattle.std.specs.List.{list_all}
use Rattle.std.proofs.lemmas.Int.{ints}
use Rattle.std.proofs.lemmas.Bool.{and_parts, le-leb, leb-true}
use Rattle.pb_linear.specs.Form.{HasNumbers, numbers}
use Rattle.pb_linear.specs.Limits.{is_number}
use Rattle.pb_linear.specs.Numbers.{Numbers, difference, multiple, exact_value, first_over, refusal, row_sum, row_multiple}
use Rattle.pb_linear.specs.declared.form.Form.{Form}
use Rattle.pb_linear.proofs.Values.{exact_value-multiple, exact_value-sum, exact_value-with_constant}
use Rattle.pb_program.specs.WellFormed.{is_small}
use Rattle.pb_region.specs.Gaps.{raised}
use Rattle.pb_region.specs.Small.{AreSmall}

pub numbers_are : (n : Numbers) (f : Form) → HasNumbers n f → numbers f ≡ n
numbers_are n f h = λ i. record { constant = h.constant i; whole = h.whole i; half = h.half i; third = h.third i; quarter = h.quarter i }

-- a number that may stand in a difference
number_fits : (a b : ℤ) → unsigned_abs a ≤ 2 ^ 24 → unsigned_abs b ≤ 2 ^ 24 → is_number (a +ℤ negsuc 0 *ℤ b) ≡ true
number_fits a b h k = le-leb _ _ (omega (arith, ints))

-- the same where one of the two numbers isn't there
left_fits : (a : ℤ) → unsigned_abs a ≤ 2 ^ 23 → is_number a ≡ true
left_fits a h = le-leb _ _ (omega arith)

right_fits : (b : ℤ) → unsigned_abs b ≤ 2 ^ 23 → is_number (negsuc 0 *ℤ b) ≡ true
right_fits b k = le-leb _ _ (omega (arith, ints))

left_row : (xs : List ℤ) → list_all is_small xs ≡ true → first_over xs ≡ None
left_row [] h = refl
left_row (x ∷ xs) h =
    let parts = and_parts (is_small x) (list_all is_small xs) h in
    rw (left_fits x (leb-true _ _ parts.0)) (left_row xs parts.1)

row_fits : (xs ys : List ℤ) → list_all is_small xs ≡ true → list_all is_small ys ≡ true → first_over (row_sum xs (row_multiple (negsuc 0) ys)) ≡ None
row_fits [] [] h k = refl
row_fits [] (y ∷ ys) h k =
    let parts = and_parts (is_small y) (list_all is_small ys) k in
    rw (right_fits y (leb-true _ _ parts.0)) (row_fits [] ys h parts.1)
row_fits (x ∷ xs) [] h k =
    let parts = and_parts (is_small x) (list_all is_small xs) h in
    rw (left_fits x (leb-true _ _ parts.0)) (left_row xs parts.1)
row_fits (x ∷ xs) (y ∷ ys) h k =
    let left = and_parts (is_small x) (list_all is_small xs) h in
    let right = and_parts (is_small y) (list_all is_small ys) k in
    rw (number_fits x y (omega (arith, leb-true _ _ left.0)) (omega (arith, leb-true _ _ right.0))) (row_fits xs ys left.1 right.1)

pub no_refusal : (a b : Numbers) → AreSmall a → AreSmall b → refusal (difference a b) ≡ None
no_refusal a b h k =
    rw (number_fits a.constant b.constant h.constant k.constant, row_fits a.whole b.whole h.whole k.whole, row_fits a.half b.half h.half k.half, row_fits a.third b.third h.third k.third, row_fits a.quarter b.quarter h.quarter k.quarter) refl

-- the negative of a form is a form
negative_fits : (a : ℤ) → is_number a ≡ true → is_number (negsuc 0 *ℤ a) ≡ true
negative_fits a h = le-leb _ _ (omega (arith, ints, leb-true _ _ h))

negative_row : (xs : List ℤ) → list_all is_number xs ≡ true → first_over (row_multiple (negsuc 0) xs) ≡ None
negative_row [] h = refl
negative_row (x ∷ xs) h =
    let parts = and_parts (is_number x) (list_all is_number xs) h in
    rw (negative_fits x parts.0) (negative_row xs parts.1)

pub no_refusal_of_negative : (f : Form) → refusal (multiple (negsuc 0) (numbers f)) ≡ None
no_refusal_of_negative f =
    rw (negative_fits f.constant f.small_constant, negative_row f.whole f.small_whole, negative_row f.half f.small_half, negative_row f.third f.small_third, negative_row f.quarter f.small_quarter) refl

pub difference_value : (a b : Numbers) (sizes : List ℕ) → exact_value (difference a b) sizes ≡ exact_value a sizes -ℤ exact_value b sizes
difference_value a b sizes = omega (arith, ints, exact_value-sum a (multiple (negsuc 0) b) sizes, exact_value-multiple (negsuc 0) b sizes)

-- one more in the constant is one more in the value
pub raised_value : (k : ℤ) (n : Numbers) (sizes : List ℕ) → exact_value (raised k n) sizes ≡ exact_value n sizes +ℤ k
raised_value k n sizes = omega (arith, ints, exact_value-with_constant (n.constant +ℤ k) n sizes)
