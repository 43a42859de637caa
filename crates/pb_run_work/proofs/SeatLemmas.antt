-- The number of a cell that fits into 64 bits, by sums and products that stop there.
use Rattle.std.proofs.Common.{◌≡◌, ◌∙◌, sym, ap, subst, ℕ, zero, suc, ◌+◌, ◌*◌, ◌<◌, ◌^◌, ◌-◌, true, false, arith}
use Rattle.std.specs.Prelude.{min, if◌then◌else◌}
use Rattle.std.proofs.Math.Nat.{le-mul_of_pos_right, min-eq_left}
use Rattle.pb_views.specs.Seats.{cell_at}
use Rattle.pb_views.specs.declared.seat.Seat.{Seat}

fitting : (n : ℕ) → n < 2 ^ 64 → min n (2 ^ 64 - 1) ≡ n
fitting n h = min-eq_left {n = n} {m = 2 ^ 64 - 1} (omega (arith, h))

-- no product is smaller than its first factor but with 0
product : (a k row : ℕ) → a ≡ min k (2 ^ 64 - 1) → k * row < 2 ^ 64 → a * row ≡ k * row
product a k zero e h = omega arith
product a k (suc n) e h = ap (λ m. m * suc n) (e ∙ fitting k (omega (arith, h, le-mul_of_pos_right {m = suc n} k (omega arith))))

number_is : (first y0 down row x0 right a m b c r : ℕ) → first + ((y0 + down) * row + (x0 + right)) < 2 ^ 64
    → a ≡ min (y0 + down) (2 ^ 64 - 1) → m ≡ min (a * row) (2 ^ 64 - 1) → b ≡ min (x0 + right) (2 ^ 64 - 1) → c ≡ min (m + b) (2 ^ 64 - 1) → r ≡ min (first + c) (2 ^ 64 - 1)
    → r ≡ first + ((y0 + down) * row + (x0 + right))
number_is first y0 down row x0 right a m b c r h a_is m_is b_is c_is r_is =
    let rows : m ≡ (y0 + down) * row = m_is ∙ ap (λ n. min n (2 ^ 64 - 1)) (product a (y0 + down) row a_is (omega (arith, h))) ∙ fitting ((y0 + down) * row) (omega (arith, h)) in
    let across : b ≡ x0 + right = b_is ∙ fitting (x0 + right) (omega (arith, h)) in
    let both : c ≡ (y0 + down) * row + (x0 + right) = c_is ∙ ap (λ n. min n (2 ^ 64 - 1)) (λ i. rows i + across i) ∙ fitting ((y0 + down) * row + (x0 + right)) (omega (arith, h)) in
    r_is ∙ ap (λ n. min (first + n) (2 ^ 64 - 1)) both ∙ fitting (first + ((y0 + down) * row + (x0 + right))) h

-- how far to the right and down a cell is from the corner, in the matrix of the run
abbrev pub number_by : Seat → ℕ × ℕ → ℕ
number_by s p = s.first + ((s.rect.y0 + p.1) * s.row + (s.rect.x0 + p.0))

module _ (s : Seat) (x y : ℕ) (p : ℕ × ℕ) where
  pub turned_cell : s.turned ≡ true → p ≡ (y, x) → cell_at s x y ≡ number_by s p
  unfolding cell_at
  turned_cell t e = (λ i. s.first + ((s.rect.y0 + (if t i then x else y)) * s.row + (s.rect.x0 + (if t i then y else x)))) ∙ ap (number_by s) (sym e)

  pub straight_cell : s.turned ≡ false → p ≡ (x, y) → cell_at s x y ≡ number_by s p
  unfolding cell_at
  straight_cell t e = (λ i. s.first + ((s.rect.y0 + (if t i then x else y)) * s.row + (s.rect.x0 + (if t i then y else x)))) ∙ ap (number_by s) (sym e)

  pub by_sums : cell_at s x y ≡ number_by s p → cell_at s x y < 2 ^ 64 → (a m b c r : ℕ)
      → a ≡ min (s.rect.y0 + p.1) (2 ^ 64 - 1) → m ≡ min (a * s.row) (2 ^ 64 - 1) → b ≡ min (s.rect.x0 + p.0) (2 ^ 64 - 1) → c ≡ min (m + b) (2 ^ 64 - 1) → r ≡ min (s.first + c) (2 ^ 64 - 1)
      → r ≡ cell_at s x y
  by_sums is h a m b c r a_is m_is b_is c_is r_is = number_is s.first s.rect.y0 p.1 s.row s.rect.x0 p.0 a m b c r (subst (λ n. n < 2 ^ 64) is h) a_is m_is b_is c_is r_is ∙ sym is
