-- Small numbers, their products and sums.
use Rattle.std.proofs.Common.{◌≡◌, ℕ, ◌+◌, ◌^◌, ◌<◌, ◌≤◌, ℤ, ◌+ℤ◌, ◌*ℤ◌, unsigned_abs, to_z, of_z, w64, arith, IsTrue}
use Rattle.std.specs.Prelude.{bit_or, nat_lt}
use Rattle.std.proofs.lemmas.Bool.Decides.{nat_tests}
use Rattle.std.proofs.lemmas.Int.{fits_signed_from_abs, ints, to_z-of_z, unsigned_abs-mul}
use Rattle.std.proofs.lemmas.Nat.{le_or_l, le_or_r, mul-le}

-- where one word has the bits of four, each of them is as small
module _ (a b c d : ℕ) (small : IsTrue (nat_lt (bit_or (bit_or a b) (bit_or c d)) 2097152)) where
  all_small : bit_or (bit_or a b) (bit_or c d) < 2097152
  all_small = grind (arith, nat_tests)

  pub first_small : a < 2097152
  first_small = omega (arith, all_small, le_or_l a b, le_or_l (bit_or a b) (bit_or c d))

  pub second_small : b < 2097152
  second_small = omega (arith, all_small, le_or_r a b, le_or_l (bit_or a b) (bit_or c d))

  pub third_small : c < 2097152
  third_small = omega (arith, all_small, le_or_l c d, le_or_r (bit_or a b) (bit_or c d))

  pub fourth_small : d < 2097152
  fourth_small = omega (arith, all_small, le_or_r c d, le_or_r (bit_or a b) (bit_or c d))

pub sum_small : (a b : ℤ) (m n : ℕ) → unsigned_abs a ≤ m → unsigned_abs b ≤ n → unsigned_abs (a +ℤ b) ≤ m + n
sum_small a b m n ha hb = omega (arith, ints, ha, hb)

-- a number as a word
abbrev pub held : ℤ → ℤ
held z = to_z w64 (of_z w64 z)

pub back : (z : ℤ) → unsigned_abs z < 2 ^ 63 → held z ≡ z
back z h = to_z-of_z w64 z (fits_signed_from_abs w64 z h)

module _ (a b : ℤ) (ha : unsigned_abs a ≤ 2 ^ 20) (hb : unsigned_abs b ≤ 2 ^ 20) where
  pub product_small : unsigned_abs (a *ℤ b) ≤ 2 ^ 40
  product_small = rw (unsigned_abs-mul a b) (mul-le (unsigned_abs a) (unsigned_abs b) (2 ^ 20) (2 ^ 20) ha hb)

  pub product_back : held (held a *ℤ held b) ≡ a *ℤ b
  product_back = rw (back a (omega (arith, ha)), back b (omega (arith, hb))) (back (a *ℤ b) (omega (arith, product_small)))

module _ (a b c d : ℤ) (ha : unsigned_abs a ≤ 2 ^ 20) (hb : unsigned_abs b ≤ 2 ^ 20) (hc : unsigned_abs c ≤ 2 ^ 20) (hd : unsigned_abs d ≤ 2 ^ 20) where
  pub pair_small : unsigned_abs (a *ℤ b +ℤ c *ℤ d) ≤ 2 ^ 41
  pair_small = omega (arith, sum_small (a *ℤ b) (c *ℤ d) (2 ^ 40) (2 ^ 40) (product_small a b ha hb) (product_small c d hc hd))

  pub pair_back : held (held (held a *ℤ held b) +ℤ held (held c *ℤ held d)) ≡ a *ℤ b +ℤ c *ℤ d
  pair_back = rw (product_back a b ha hb, product_back c d hc hd) (back (a *ℤ b +ℤ c *ℤ d) (omega (arith, pair_small)))

  module _ (t : ℤ) (ht : unsigned_abs t ≤ 2 ^ 62) where
    pub total_small : unsigned_abs (t +ℤ (a *ℤ b +ℤ c *ℤ d)) ≤ unsigned_abs t + 2 ^ 41
    total_small = sum_small t (a *ℤ b +ℤ c *ℤ d) (unsigned_abs t) (2 ^ 41) (omega arith) pair_small

    pub total_back : held (held t +ℤ held (held (held a *ℤ held b) +ℤ held (held c *ℤ held d))) ≡ t +ℤ (a *ℤ b +ℤ c *ℤ d)
    total_back = rw (pair_back, back t (omega (arith, ht))) (back (t +ℤ (a *ℤ b +ℤ c *ℤ d)) (omega (arith, total_small, ht)))
