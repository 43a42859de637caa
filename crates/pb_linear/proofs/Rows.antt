-- Rows of coefficients: sums, multiples, and the first number over the limit.
use Rattle.std.proofs.Common.{◌≡◌, ℕ, zero, suc, ◌<◌, true, IsTrue, List, [], ◌∷◌, length, replicate, get_or, Some, None, ℤ, pos, ◌+ℤ◌, ◌*ℤ◌, refl, sym, ap, ◌∙◌, arith}
use Rattle.std.specs.List.{list_all}
use Rattle.std.proofs.Math.IntN.{*ℤ-zero, zero-*ℤ, +ℤ_idl, +ℤ_idr}
use Rattle.std.proofs.lemmas.Int.{ints}
use Rattle.std.proofs.lemmas.List.{length-map}
use Rattle.pb_linear.specs.Limits.{is_number}
use Rattle.pb_linear.specs.Numbers.{Numbers, row_sum, row_multiple, row_combination, sum_of, multiple, first_over}
use Rattle.pb_linear.specs.declared.form.OverLimit.{OverLimit}

-- ---- a coefficient of a sum and of a multiple
pub row_sum-at : (xs ys : List ℤ) (i : ℕ) → get_or (row_sum xs ys) i (pos 0) ≡ get_or xs i (pos 0) +ℤ get_or ys i (pos 0)
row_sum-at [] ys i = sym (+ℤ_idl (get_or ys i (pos 0)))
row_sum-at (x ∷ xs) [] i = sym (+ℤ_idr (get_or (x ∷ xs) i (pos 0)))
row_sum-at (x ∷ xs) (y ∷ ys) zero = refl
row_sum-at (x ∷ xs) (y ∷ ys) (suc i) = row_sum-at xs ys i

pub row_multiple-at : (k : ℤ) (xs : List ℤ) (i : ℕ) → get_or (row_multiple k xs) i (pos 0) ≡ k *ℤ get_or xs i (pos 0)
row_multiple-at k [] i = sym (*ℤ-zero k)
row_multiple-at k (x ∷ xs) zero = refl
row_multiple-at k (x ∷ xs) (suc i) = row_multiple-at k xs i

pub row_combination-at : (base : List ℤ) (x : ℤ) (first : List ℤ) (y : ℤ) (second : List ℤ) (i : ℕ) → get_or (row_combination base x first y second) i (pos 0) ≡ get_or base i (pos 0) +ℤ (x *ℤ get_or first i (pos 0) +ℤ y *ℤ get_or second i (pos 0))
row_combination-at base x first y second i = simp (row_sum-at, row_multiple-at)

length-row_sum : (xs ys : List ℤ) → length xs ≡ length ys → length (row_sum xs ys) ≡ length xs
length-row_sum [] ys e = sym e
length-row_sum (x ∷ xs) [] e = refl
length-row_sum (x ∷ xs) (y ∷ ys) e = ap suc (length-row_sum xs ys (omega arith))

pub length-row_combination : (base : List ℤ) (x : ℤ) (first : List ℤ) (y : ℤ) (second : List ℤ) → length base ≡ 8 → length first ≡ 8 → length second ≡ 8 → length (row_combination base x first y second) ≡ 8
length-row_combination base x first y second a b c =
    let one : length (row_multiple x first) ≡ 8 = rw length-map b in
    let two : length (row_multiple y second) ≡ 8 = rw length-map c in
    let both = length-row_sum (row_multiple x first) (row_multiple y second) (omega arith) in
    omega (arith, length-row_sum base (row_sum (row_multiple x first) (row_multiple y second)) (omega arith))

-- ---- the first number over the limit
pub first_over-at : (zs : List ℤ) (i : ℕ) (e : OverLimit) → i < length zs → ((k : ℕ) → k < i → IsTrue (is_number (get_or zs k (pos 0)))) → Some e ≡ first_over (get_or zs i (pos 0) ∷ []) → Some e ≡ first_over zs
first_over-at [] i e below small over = absurd (omega arith)
first_over-at (z ∷ zs) zero e below small over = grind arith
first_over-at (z ∷ zs) (suc i) e below small over = let here : is_number z ≡ true = small 0 (omega arith) in rw here (first_over-at zs i e (omega arith) (λ k h. small (suc k) (omega arith)) over)

pub first_over-none : (zs : List ℤ) → ((k : ℕ) → k < length zs → IsTrue (is_number (get_or zs k (pos 0)))) → None ≡ first_over zs
first_over-none [] small = refl
first_over-none (z ∷ zs) small = let here : is_number z ≡ true = small 0 (omega arith) in rw here (first_over-none zs (λ k h. small (suc k) (omega arith)))

pub list_all-from : (zs : List ℤ) → ((k : ℕ) → k < length zs → IsTrue (is_number (get_or zs k (pos 0)))) → IsTrue (list_all is_number zs)
list_all-from [] small = refl
list_all-from (z ∷ zs) small = let here : is_number z ≡ true = small 0 (omega arith) in rw here (list_all-from zs (λ k h. small (suc k) (omega arith)))

-- ---- multiples that change nothing
row_none : (k : ℤ) (xs : List ℤ) → row_sum (row_multiple k xs) (row_multiple (pos 0) xs) ≡ row_multiple k xs
row_none k [] = refl
row_none k (x ∷ xs) = let here : k *ℤ x +ℤ pos 0 *ℤ x ≡ k *ℤ x = omega (arith, ints, zero-*ℤ x) in rw (here, row_none k xs) refl

row_once : (xs : List ℤ) → row_multiple (pos 1) xs ≡ xs
row_once [] = refl
row_once (x ∷ xs) = let here : pos 1 *ℤ x ≡ x = omega (arith, ints) in rw (here, row_once xs) refl

row_zero : (n : ℕ) (xs : List ℤ) → length xs ≡ n → row_sum (replicate n (pos 0)) xs ≡ xs
row_zero zero xs e = refl
row_zero (suc n) [] e = absurd (omega arith)
row_zero (suc n) (x ∷ xs) e = rw (+ℤ_idl x, row_zero n xs (omega arith)) refl

pub multiple-none : (k : ℤ) (n : Numbers) → sum_of (multiple k n) (multiple (pos 0) n) ≡ multiple k n
multiple-none k n =
    let here : k *ℤ n.constant +ℤ pos 0 *ℤ n.constant ≡ k *ℤ n.constant = omega (arith, ints, zero-*ℤ n.constant) in
    rw (here, row_none k n.whole, row_none k n.half, row_none k n.third, row_none k n.quarter) refl

pub multiple-once : (n : Numbers) → multiple (pos 1) n ≡ n
multiple-once n =
    let here : pos 1 *ℤ n.constant ≡ n.constant = omega (arith, ints) in
    rw (here, row_once n.whole, row_once n.half, row_once n.third, row_once n.quarter) refl

pub put_multiple : (a n n' : Numbers) (k k' : ℤ) → k' ≡ k → n' ≡ n → sum_of a (sum_of (multiple k' n') (multiple (pos 0) n')) ≡ sum_of a (multiple k n)
put_multiple a n n' k k' ek en = ap (sum_of a) (multiple-none k' n' ∙ ap (λ z. multiple z n') ek ∙ ap (multiple k) en)

-- all numbers are 0
abbrev pub no_numbers : Numbers
no_numbers =
    record {
      constant = pos 0;
      whole = replicate 8 (pos 0);
      half = replicate 8 (pos 0);
      third = replicate 8 (pos 0);
      quarter = replicate 8 (pos 0);
    }

pub sum_of-no_numbers : (n : Numbers) (k k' : ℤ) → k' ≡ k → length n.whole ≡ 8 → length n.half ≡ 8 → length n.third ≡ 8 → length n.quarter ≡ 8 → sum_of no_numbers (multiple k' n) ≡ multiple k n
sum_of-no_numbers n k k' e w h t q =
    let rows = λ (xs : List ℤ) (full : length xs ≡ 8). row_zero 8 (row_multiple k' xs) (rw length-map full) in
    rw (+ℤ_idl (k' *ℤ n.constant), rows n.whole w, rows n.half h, rows n.third t, rows n.quarter q) (ap (λ z. multiple z n) e)

pub ruleset row_steps = (length-row_combination, first_over-none, list_all-from)
