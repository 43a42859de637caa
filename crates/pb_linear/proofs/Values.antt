-- Laws of the value of exact numbers.
use Rattle.std.proofs.Common.{◌∙◌, ap, ◌≡◌, ℕ, zero, suc, ◌+◌, ◌/◌, List, get_or, ℤ, pos, ◌+ℤ◌, ◌*ℤ◌, refl, arith}
use Rattle.std.proofs.Math.Numerals.{add-one}
use Rattle.std.proofs.lemmas.Int.{ints, to_z-of_z}
use Rattle.pb_linear.specs.Form.{HasNumbers, numbers, value}
use Rattle.pb_linear.specs.Numbers.{Numbers, coefficient, exact_value, part_of, value_before, row_sum, row_multiple, sum_of, multiple, with_constant}
use Rattle.pb_linear.specs.Sizes.{sizes_of}
use Rattle.pb_linear.specs.declared.form.Form.{Form}
use Rattle.pb_linear.specs.declared.sizes.Sizes.{Sizes}
use Rattle.pb_linear.proofs.SizesLemmas.{size_at}
use Rattle.pb_linear.proofs.Integers.{add-mul, mul-add, mul-mul}
use Rattle.pb_linear.proofs.Rows.{row_sum-at, row_multiple-at}

pub value_before-zero : (n : Numbers) (sizes : List ℕ) → value_before 0 n sizes ≡ n.constant
unfolding value_before
value_before-zero n sizes = refl

pub value_before-more : (i : ℕ) (n : Numbers) (sizes : List ℕ) → value_before (i + 1) n sizes ≡ value_before i n sizes +ℤ part_of n i (get_or sizes i 0)
unfolding value_before
value_before-more i n sizes = rw add-one

-- a term of a sum and of a multiple
term_sum : (xs ys : List ℤ) (i q : ℕ) → coefficient (row_sum xs ys) i *ℤ pos q ≡ coefficient xs i *ℤ pos q +ℤ coefficient ys i *ℤ pos q
term_sum xs ys i q = rw (row_sum-at xs ys i) (add-mul (coefficient xs i) (coefficient ys i) (pos q))

term_multiple : (k : ℤ) (xs : List ℤ) (i q : ℕ) → coefficient (row_multiple k xs) i *ℤ pos q ≡ k *ℤ (coefficient xs i *ℤ pos q)
term_multiple k xs i q = rw (row_multiple-at k xs i) (mul-mul k (coefficient xs i) q)

mul-add_four : (k a b c d : ℤ) → k *ℤ (a +ℤ b +ℤ c +ℤ d) ≡ k *ℤ a +ℤ k *ℤ b +ℤ k *ℤ c +ℤ k *ℤ d
mul-add_four k a b c d = omega (arith, ints, mul-add k (a +ℤ b +ℤ c) d, mul-add k (a +ℤ b) c, mul-add k a b)

part-sum : (a b : Numbers) (i v : ℕ) → part_of (sum_of a b) i v ≡ part_of a i v +ℤ part_of b i v
part-sum a b i v =
    omega (arith, ints, term_sum a.whole b.whole i v, term_sum a.half b.half i (v / 2), term_sum a.third b.third i (v / 3), term_sum a.quarter b.quarter i (v / 4))

part-multiple : (k : ℤ) (a : Numbers) (i v : ℕ) → part_of (multiple k a) i v ≡ k *ℤ part_of a i v
part-multiple k a i v =
    omega (arith, ints, mul-add_four k (coefficient a.whole i *ℤ pos v) (coefficient a.half i *ℤ pos (v / 2)) (coefficient a.third i *ℤ pos (v / 3)) (coefficient a.quarter i *ℤ pos (v / 4)), term_multiple k a.whole i v, term_multiple k a.half i (v / 2), term_multiple k a.third i (v / 3), term_multiple k a.quarter i (v / 4))

value_before-sum : (i : ℕ) (a b : Numbers) (sizes : List ℕ) → value_before i (sum_of a b) sizes ≡ value_before i a sizes +ℤ value_before i b sizes
unfolding value_before
value_before-sum zero a b sizes = refl
value_before-sum (suc i) a b sizes = omega (arith, ints, value_before-sum i a b sizes, part-sum a b i (get_or sizes i 0))

value_before-multiple : (i : ℕ) (k : ℤ) (a : Numbers) (sizes : List ℕ) → value_before i (multiple k a) sizes ≡ k *ℤ value_before i a sizes
unfolding value_before
value_before-multiple zero k a sizes = refl
value_before-multiple (suc i) k a sizes = omega (arith, ints, value_before-multiple i k a sizes, part-multiple k a i (get_or sizes i 0), mul-add k (value_before i a sizes) (part_of a i (get_or sizes i 0)))

value_before-with_constant : (i : ℕ) (c : ℤ) (a : Numbers) (sizes : List ℕ) → value_before i (with_constant c a) sizes +ℤ a.constant ≡ value_before i a sizes +ℤ c
unfolding value_before
value_before-with_constant zero c a sizes = omega (arith, ints)
value_before-with_constant (suc i) c a sizes = omega (arith, ints, value_before-with_constant i c a sizes)

pub exact_value-sum : (a b : Numbers) (sizes : List ℕ) → exact_value (sum_of a b) sizes ≡ exact_value a sizes +ℤ exact_value b sizes
exact_value-sum = value_before-sum 8

pub exact_value-multiple : (k : ℤ) (a : Numbers) (sizes : List ℕ) → exact_value (multiple k a) sizes ≡ k *ℤ exact_value a sizes
exact_value-multiple = value_before-multiple 8

-- the value with another constant
pub exact_value-with_constant : (c : ℤ) (a : Numbers) (sizes : List ℕ) → exact_value (with_constant c a) sizes +ℤ a.constant ≡ exact_value a sizes +ℤ c
exact_value-with_constant = value_before-with_constant 8

-- the value of a form by its numbers
pub value_is : (n : Numbers) (f : Form) → HasNumbers n f → (sizes : List ℕ) → value f sizes ≡ exact_value n sizes
value_is n f h sizes = rw (h.constant, h.whole, h.half, h.third, h.quarter) refl

pub value-sum : (a b f : Form) (k : ℤ) → HasNumbers (sum_of (numbers a) (multiple k (numbers b))) f → (sizes : List ℕ) → value f sizes ≡ value a sizes +ℤ k *ℤ value b sizes
value-sum a b f k has sizes =
    omega (arith, ints, value_is _ f has sizes, exact_value-sum (numbers a) (multiple k (numbers b)) sizes, exact_value-multiple k (numbers b) sizes)

-- a step of the loop of `at`
pub at_more : (f : Form) (s : Sizes) (i : ℕ) → value_before (i + 1) (numbers f) (sizes_of s) ≡ value_before i (numbers f) (sizes_of s) +ℤ part_of (numbers f) i (get_or s.of i 0)
at_more f s i = value_before-more i (numbers f) (sizes_of s) ∙ ap (λ v. value_before i (numbers f) (sizes_of s) +ℤ part_of (numbers f) i v) (size_at s.count s.of s.zero_past_count i)

pub ruleset at_steps = (ints, to_z-of_z, value_before-zero, at_more)
