-- Sums of near numbers are near, and aren't refused.
use Rattle.std.proofs.Common.{◌≡◌, refl, ℕ, ◌+◌, ◌*◌, ◌^◌, ◌≤◌, List, [], ◌∷◌, true, None, ℤ, negsuc, ◌+ℤ◌, ◌*ℤ◌, unsigned_abs, arith}
use Rattle.std.specs.List.{list_all}
use Rattle.std.proofs.Math.Nat.{mul-le-mul}
use Rattle.std.proofs.lemmas.Int.{ints, unsigned_abs-mul}
use Rattle.std.proofs.lemmas.Bool.{and_parts, le-leb, leb-true}
use Rattle.pb_linear.specs.Form.{numbers}
use Rattle.pb_linear.specs.Limits.{is_number}
use Rattle.pb_linear.specs.Numbers.{Numbers, difference, first_over, multiple, refusal, row_multiple, row_sum, sum_of}
use Rattle.pb_linear.specs.declared.vform.VForm.{VForm}
use Rattle.pb_graph.specs.Near.{AreNear, CanBeTaken, is_near}

-- ---- numbers
nearer : (a : ℤ) (A B : ℕ) → A ≤ B → is_near A a ≡ true → is_near B a ≡ true
nearer a A B le h = le-leb _ _ (omega (arith, leb-true _ _ h))

sum_near : (a b : ℤ) (A B : ℕ) → is_near A a ≡ true → is_near B b ≡ true → is_near (A + B) (a +ℤ b) ≡ true
sum_near a b A B h k = le-leb _ _ (omega (arith, ints, leb-true _ _ h, leb-true _ _ k))

product_near : (k a : ℤ) (A : ℕ) → is_near A a ≡ true → is_near (unsigned_abs k * A) (k *ℤ a) ≡ true
product_near k a A h = le-leb _ _ (rw (unsigned_abs-mul k a) (mul-le-mul (omega arith) (leb-true _ _ h)))

-- ---- rows
row_nearer : (xs : List ℤ) (A B : ℕ) → A ≤ B → list_all (is_near A) xs ≡ true → list_all (is_near B) xs ≡ true
row_nearer [] A B le h = refl
row_nearer (x ∷ xs) A B le h = let p = and_parts (is_near A x) (list_all (is_near A) xs) h in rw (nearer x A B le p.0) (row_nearer xs A B le p.1)

row_sum_near : (xs ys : List ℤ) (A B : ℕ) → list_all (is_near A) xs ≡ true → list_all (is_near B) ys ≡ true → list_all (is_near (A + B)) (row_sum xs ys) ≡ true
row_sum_near [] ys A B h k = row_nearer ys B (A + B) (omega arith) k
row_sum_near (x ∷ xs) [] A B h k = row_nearer (x ∷ xs) A (A + B) (omega arith) h
row_sum_near (x ∷ xs) (y ∷ ys) A B h k =
    let p = and_parts (is_near A x) (list_all (is_near A) xs) h in
    let q = and_parts (is_near B y) (list_all (is_near B) ys) k in
    rw (sum_near x y A B p.0 q.0) (row_sum_near xs ys A B p.1 q.1)

row_multiple_near : (k : ℤ) (xs : List ℤ) (A : ℕ) → list_all (is_near A) xs ≡ true → list_all (is_near (unsigned_abs k * A)) (row_multiple k xs) ≡ true
row_multiple_near k [] A h = refl
row_multiple_near k (x ∷ xs) A h =
    let p = and_parts (is_near A x) (list_all (is_near A) xs) h in
    rw (product_near k x A p.0) (row_multiple_near k xs A p.1)

none_over : (xs : List ℤ) (A : ℕ) → A ≤ 2 ^ 26 → list_all (is_near A) xs ≡ true → first_over xs ≡ None
none_over [] A le h = refl
none_over (x ∷ xs) A le h =
    let p = and_parts (is_near A x) (list_all (is_near A) xs) h in
    let here : is_number x ≡ true = nearer x A (2 ^ 26) le p.0 in
    rw here (none_over xs A le p.1)

-- ---- numbers of forms
pub near_nearer : (n : Numbers) (A B : ℕ) → A ≤ B → AreNear A n → AreNear B n
near_nearer n A B le h = record { constant = nearer n.constant A B le h.constant; whole = row_nearer n.whole A B le h.whole; half = row_nearer n.half A B le h.half; third = row_nearer n.third A B le h.third; quarter = row_nearer n.quarter A B le h.quarter }

pub near_sum : (a b : Numbers) (A B : ℕ) → AreNear A a → AreNear B b → AreNear (A + B) (sum_of a b)
near_sum a b A B h k = record {
  constant = sum_near a.constant b.constant A B h.constant k.constant;
  whole = row_sum_near a.whole b.whole A B h.whole k.whole;
  half = row_sum_near a.half b.half A B h.half k.half;
  third = row_sum_near a.third b.third A B h.third k.third;
  quarter = row_sum_near a.quarter b.quarter A B h.quarter k.quarter;
}

pub near_multiple : (k : ℤ) (a : Numbers) (A : ℕ) → AreNear A a → AreNear (unsigned_abs k * A) (multiple k a)
near_multiple k a A h = record {
  constant = product_near k a.constant A h.constant;
  whole = row_multiple_near k a.whole A h.whole;
  half = row_multiple_near k a.half A h.half;
  third = row_multiple_near k a.third A h.third;
  quarter = row_multiple_near k a.quarter A h.quarter;
}

pub not_refused : (n : Numbers) (A : ℕ) → A ≤ 2 ^ 26 → AreNear A n → refusal n ≡ None
not_refused n A le h =
    let here : is_number n.constant ≡ true = nearer n.constant A (2 ^ 26) le h.constant in
    rw (here, none_over n.whole A le h.whole, none_over n.half A le h.half, none_over n.third A le h.third, none_over n.quarter A le h.quarter) refl

pub difference_near : (a b : Numbers) (A B : ℕ) → AreNear A a → AreNear B b → AreNear (A + B) (difference a b)
difference_near a b A B h k = near_nearer (difference a b) (A + (1 * B)) (A + B) (omega arith) (near_sum a (multiple (negsuc 0) b) A (1 * B) h (near_multiple (negsuc 0) b B k))

-- the difference of forms that can be taken from each other
pub difference_fits : (left right : VForm) → CanBeTaken left right → refusal (difference (numbers left.rest) (numbers right.rest)) ≡ None
difference_fits left right t = not_refused _ (t.left_top + t.right_top) (omega (arith, t.room)) (difference_near (numbers left.rest) (numbers right.rest) t.left_top t.right_top t.of_left.rest t.of_right.rest)
