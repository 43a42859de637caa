-- How large the numbers of a sum can be.
use Rattle.std.proofs.Common.{◌≡◌, ℕ, zero, suc, ◌+◌, ◌^◌, ◌<◌, ◌≤◌, ℤ, pos, ◌+ℤ◌, unsigned_abs, IsTrue, Bool, true, false, ◌&&◌, List, [], ◌∷◌, length, set, refl, arith, get_or, SFits, w64}
use Rattle.std.proofs.lemmas.Int.{ints}
use Rattle.std.proofs.lemmas.Bool.Decides.{nat_tests}
use Rattle.std.specs.List.{list_all}
use Rattle.pb_linear.specs.Limits.{is_number}
use Rattle.pb_names.specs.Bounds.{is_within}

pub within_more : (n : ℕ) (z : ℤ) → IsTrue (is_within n z) → IsTrue (is_within (n + 1) z)
within_more n z h = grind (arith, nat_tests)

pub within_added : (n : ℕ) (z d : ℤ) → IsTrue (is_within n z) → unsigned_abs d ≤ 2 ^ 20 → IsTrue (is_within (n + 1) (z +ℤ d))
within_added n z d h small = grind (arith, ints, nat_tests)

pub within_number : (n : ℕ) (z : ℤ) → n ≤ 8 → IsTrue (is_within n z) → IsTrue (is_number z)
within_number n z few h = grind (arith, nat_tests)

both : (b c : Bool) → (b && c) ≡ true → (b ≡ true) × (c ≡ true)
both true c h = (refl, h)
both false c h = cc

pub row_more : (n : ℕ) (row : List ℤ) → IsTrue (list_all (is_within n) row) → IsTrue (list_all (is_within (n + 1)) row)
row_more n [] h = refl
row_more n (z ∷ zs) h = let k = both (is_within n z) (list_all (is_within n) zs) h in rw (within_more n z k.0) (row_more n zs k.1)

pub row_at : (n : ℕ) (row : List ℤ) (i : ℕ) → i < length row → IsTrue (list_all (is_within n) row) → IsTrue (is_within n (get_or row i (pos 0)))
row_at n [] i within h = absurd (omega arith)
row_at n (z ∷ zs) zero within h = (both (is_within n z) (list_all (is_within n) zs) h).0
row_at n (z ∷ zs) (suc i) within h = row_at n zs i (omega arith) (both (is_within n z) (list_all (is_within n) zs) h).1

pub row_set : (n : ℕ) (row : List ℤ) (i : ℕ) (z : ℤ) → IsTrue (list_all (is_within n) row) → IsTrue (is_within (n + 1) z) → IsTrue (list_all (is_within (n + 1)) (set row i z))
row_set n [] i z h new = refl
row_set n (y ∷ ys) zero z h new = rw new (row_more n ys (both (is_within n y) (list_all (is_within n) ys) h).1)
row_set n (y ∷ ys) (suc i) z h new = let k = both (is_within n y) (list_all (is_within n) ys) h in rw (within_more n y k.0) (row_set n ys i z k.1 new)

-- the numbers of a sum of few terms are numbers of a form
pub row_numbers : (n : ℕ) (row : List ℤ) → n ≤ 8 → IsTrue (list_all (is_within n) row) → IsTrue (list_all is_number row)
row_numbers n [] few h = refl
row_numbers n (z ∷ zs) few h = let k = both (is_within n z) (list_all (is_within n) zs) h in rw (within_number n z few k.0) (row_numbers n zs few k.1)

pub within_fits : (n : ℕ) (z : ℤ) → n ≤ 8 → IsTrue (is_within n z) → SFits w64 z
within_fits n z few h = grind (arith, ints, nat_tests)
