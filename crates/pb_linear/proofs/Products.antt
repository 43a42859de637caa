-- Bounds of the products that the code makes.
use Rattle.std.proofs.Common.{ℕ, ◌*◌, ◌^◌, ◌≤◌, ℤ, pos, ◌+ℤ◌, ◌*ℤ◌, unsigned_abs, FitsSigned, w64, to_z, of_z, ◌≡◌, arith}
use Rattle.std.proofs.Math.Nat.{mul-le-mul}
use Rattle.std.proofs.lemmas.Int.{ints, to_z-of_z, to_z_pos, unsigned_abs-mul}

product_near : (a b : ℤ) (m n : ℕ) → unsigned_abs a ≤ m → unsigned_abs b ≤ n → unsigned_abs (a *ℤ b) ≤ m * n
product_near a b m n small_a small_b = rw (unsigned_abs-mul a b) (mul-le-mul small_a small_b)

-- a coefficient times a quotient of a size
pub near_quotient : (a : ℤ) (q : ℕ) → unsigned_abs a ≤ 2 ^ 26 → q ≤ 2 ^ 20 → unsigned_abs (a *ℤ pos q) ≤ 2 ^ 46
near_quotient a q small_a small_q = product_near a (pos q) (2 ^ 26) (2 ^ 20) small_a small_q

-- a coefficient times a coordinate of a place
pub near_place : (a b : ℤ) → unsigned_abs a ≤ 2 ^ 26 → unsigned_abs b ≤ 2 ^ 23 → unsigned_abs (a *ℤ b) ≤ 2 ^ 49
near_place a b small_a small_b = product_near a b (2 ^ 26) (2 ^ 23) small_a small_b

-- any factor times a number of a form
pub near_multiple : (a b : ℤ) → FitsSigned w64 a → unsigned_abs b ≤ 2 ^ 27 → unsigned_abs (a *ℤ b) ≤ 2 ^ 90
near_multiple a b fits small_b = product_near a b (2 ^ 63) (2 ^ 27) (omega (arith, ints)) small_b

-- the products as the machine computes them
pub machine_quotient : (a : ℤ) (q : ℕ) → unsigned_abs a ≤ 2 ^ 26 → q ≤ 2 ^ 20 → to_z w64 (of_z w64 (to_z w64 (of_z w64 a) *ℤ to_z w64 q)) ≡ a *ℤ pos q
machine_quotient a q small_a small_q =
    let fits_a : FitsSigned w64 a = omega (arith, ints) in
    let fits : FitsSigned w64 (a *ℤ pos q) = omega (arith, ints, near_quotient a q small_a small_q) in
    rw (to_z-of_z w64 a fits_a, to_z_pos w64 q (omega arith)) (to_z-of_z w64 (a *ℤ pos q) fits)

pub machine_place : (a b : ℤ) → unsigned_abs a ≤ 2 ^ 26 → unsigned_abs b ≤ 2 ^ 23 → to_z w64 (of_z w64 (to_z w64 (of_z w64 a) *ℤ to_z w64 (of_z w64 b))) ≡ a *ℤ b
machine_place a b small_a small_b =
    let fits_a : FitsSigned w64 a = omega (arith, ints) in
    let fits_b : FitsSigned w64 b = omega (arith, ints) in
    let fits : FitsSigned w64 (a *ℤ b) = omega (arith, ints, near_place a b small_a small_b) in
    rw (to_z-of_z w64 a fits_a, to_z-of_z w64 b fits_b) (to_z-of_z w64 (a *ℤ b) fits)

-- a value at sizes and two such products
pub sum_of_two_fits : (b d : ℤ) → unsigned_abs b ≤ 2 ^ 49 → unsigned_abs d ≤ 2 ^ 49 → FitsSigned w64 (to_z w64 (of_z w64 b) +ℤ to_z w64 (of_z w64 d))
sum_of_two_fits b d small_b small_d = omega (arith, ints)

module _ (a b d : ℤ) (small_a : unsigned_abs a ≤ 2 ^ 52) (small_b : unsigned_abs b ≤ 2 ^ 49) (small_d : unsigned_abs d ≤ 2 ^ 49) where
  pub sum_of_three_fits : FitsSigned w64 (to_z w64 (of_z w64 a) +ℤ to_z w64 (of_z w64 (to_z w64 (of_z w64 b) +ℤ to_z w64 (of_z w64 d))))
  sum_of_three_fits = omega (arith, ints)

  pub sum_of_three : to_z w64 (of_z w64 (to_z w64 (of_z w64 a) +ℤ to_z w64 (of_z w64 (to_z w64 (of_z w64 b) +ℤ to_z w64 (of_z w64 d))))) ≡ a +ℤ (b +ℤ d)
  sum_of_three = omega (arith, ints)
