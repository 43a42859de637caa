-- Sums of places, squares and products in closed form.
use mir.Syntax.{w128}
use Rattle.std.proofs.Common.{◌≡◌, ◌∙◌, refl, sym, ap, ℕ, zero, suc, ◌+◌, ◌-◌, ◌*◌, ◌/◌, ◌^◌, ◌≤◌, ℤ, pos, negsuc, ◌+ℤ◌, ◌*ℤ◌, unsigned_abs, FitsSigned, w64, to_z, of_z, arith}
use Rattle.std.proofs.Math.IntN.{*ℤ_comm, suc_ℤ-*ℤ, *ℤ-zero, *ℤ-negsuc}
use Rattle.std.proofs.Math.Nat.{mul-le-mul}
use Rattle.std.proofs.lemmas.Int.{ints, unsigned_abs-mul}
use Rattle.pb_sums.specs.Sums.{sum_of_places, sum_of_products, sum_of_squares}
use Rattle.pb_sums.specs.declared.progression.Progression.{Progression}

-- ---- sums of places
places_doubled : (n : ℕ) → 2 * sum_of_places n + n ≡ n * n
unfolding sum_of_places
places_doubled zero = refl
places_doubled (suc n) = grind (arith, places_doubled n)

pub places_are : (n : ℕ) → (n * n - n) / 2 ≡ sum_of_places n
places_are n = omega (arith, places_doubled n)

pub places_near : (n : ℕ) → n ≤ 2 ^ 23 → sum_of_places n ≤ 2 ^ 45
places_near n h = let few : n * n ≤ 2 ^ 23 * 2 ^ 23 = mul-le-mul h h in omega (arith, places_doubled n, few)

squares_sixfold : (n : ℕ) → 6 * sum_of_squares n + 3 * n * n ≡ 2 * n * n * n + n
unfolding sum_of_squares
squares_sixfold zero = refl
squares_sixfold (suc n) = grind (arith, squares_sixfold n)

pub squares_are : (n : ℕ) → (2 * n * n * n + n - 3 * n * n) / 6 ≡ sum_of_squares n
squares_are n = omega (arith, squares_sixfold n)

pub squares_near : (n : ℕ) → n ≤ 2 ^ 23 → sum_of_squares n ≤ 2 ^ 68
squares_near n h = let few : 2 * n * n * n ≤ 2 * 2 ^ 23 * 2 ^ 23 * 2 ^ 23 = mul-le-mul (mul-le-mul (mul-le-mul {n₂ = 2} (omega arith) h) h) h in omega (arith, squares_sixfold n, few, h)

-- ---- laws of products
mul-suc : (a : ℤ) (n : ℕ) → a *ℤ pos (suc n) ≡ a *ℤ pos n +ℤ a
mul-suc a n = *ℤ_comm a (pos (suc n)) ∙ suc_ℤ-*ℤ (pos n) a ∙ ap (λ z. z +ℤ a) (*ℤ_comm (pos n) a)

add-mul-pos : (a b : ℤ) (n : ℕ) → (a +ℤ b) *ℤ pos n ≡ a *ℤ pos n +ℤ b *ℤ pos n
add-mul-pos a b zero = omega (arith, ints, *ℤ-zero (a +ℤ b), *ℤ-zero a, *ℤ-zero b)
add-mul-pos a b (suc n) = omega (arith, ints, add-mul-pos a b n, mul-suc a n, mul-suc b n, mul-suc (a +ℤ b) n)

add-mul : (a b c : ℤ) → (a +ℤ b) *ℤ c ≡ a *ℤ c +ℤ b *ℤ c
add-mul a b (pos n) = add-mul-pos a b n
add-mul a b (negsuc n) = omega (arith, ints, add-mul-pos a b (suc n), *ℤ-negsuc a n, *ℤ-negsuc b n, *ℤ-negsuc (a +ℤ b) n)

mul-add : (a b c : ℤ) → a *ℤ (b +ℤ c) ≡ a *ℤ b +ℤ a *ℤ c
mul-add a b c = omega (arith, ints, *ℤ_comm a (b +ℤ c), add-mul b c a, *ℤ_comm b a, *ℤ_comm c a)

mul-mul : (a b : ℤ) (n : ℕ) → (a *ℤ b) *ℤ pos n ≡ a *ℤ (b *ℤ pos n)
mul-mul a b zero = omega (arith, ints, *ℤ-zero (a *ℤ b), ap (λ z. a *ℤ z) (*ℤ-zero b), *ℤ-zero a)
mul-mul a b (suc n) = omega (arith, ints, mul-mul a b n, mul-suc (a *ℤ b) n, ap (λ z. a *ℤ z) (mul-suc b n), mul-add a (b *ℤ pos n) b)

pub near_product : (a b : ℤ) (m n : ℕ) → unsigned_abs a ≤ m → unsigned_abs b ≤ n → unsigned_abs (a *ℤ b) ≤ m * n
near_product a b m n h k = rw (unsigned_abs-mul a b) (mul-le-mul h k)

-- ---- products of progressions
module _ (a0 a1 b0 b1 : ℤ) where
  abbrev pub closed : ℕ → ℤ
  closed n = (a0 *ℤ b0) *ℤ pos n +ℤ (a0 *ℤ b1 +ℤ a1 *ℤ b0) *ℤ pos (sum_of_places n) +ℤ (a1 *ℤ b1) *ℤ pos (sum_of_squares n)

  one_place : (n : ℕ) → (a0 +ℤ a1 *ℤ pos n) *ℤ (b0 +ℤ b1 *ℤ pos n) ≡ a0 *ℤ b0 +ℤ (a0 *ℤ b1 +ℤ a1 *ℤ b0) *ℤ pos n +ℤ (a1 *ℤ b1) *ℤ pos (n * n)
  one_place n =
      let p = pos n in
      let turn : (a1 *ℤ p) *ℤ b0 ≡ (a1 *ℤ b0) *ℤ p = *ℤ_comm (a1 *ℤ p) b0 ∙ sym (mul-mul b0 a1 n) ∙ ap (λ z. z *ℤ p) (*ℤ_comm b0 a1) in
      let both : (a1 *ℤ p) *ℤ (b1 *ℤ p) ≡ (a1 *ℤ b1) *ℤ pos (n * n) =
      sym (mul-mul (a1 *ℤ p) b1 n) ∙ ap (λ z. z *ℤ p) (*ℤ_comm (a1 *ℤ p) b1 ∙ sym (mul-mul b1 a1 n) ∙ ap (λ z. z *ℤ p) (*ℤ_comm b1 a1)) ∙ mul-mul (a1 *ℤ b1) p n in
      omega (arith, ints, add-mul a0 (a1 *ℤ p) (b0 +ℤ b1 *ℤ p), mul-add a0 b0 (b1 *ℤ p), mul-add (a1 *ℤ p) b0 (b1 *ℤ p), mul-mul a0 b1 n, turn, both, add-mul (a0 *ℤ b1) (a1 *ℤ b0) p)

-- the sum without a loop
pub closed_is : (a b : Progression) (n : ℕ) → sum_of_products a b n ≡ closed a.first a.step b.first b.step n
unfolding sum_of_products sum_of_places sum_of_squares
closed_is a b zero = omega (arith, ints, *ℤ-zero (a.first *ℤ b.first), *ℤ-zero (a.first *ℤ b.step +ℤ a.step *ℤ b.first), *ℤ-zero (a.step *ℤ b.step))
closed_is a b (suc n) =
    omega (
      arith,
      ints,
      closed_is a b n,
      one_place a.first a.step b.first b.step n,
      mul-suc (a.first *ℤ b.first) n,
      mul-plus (a.first *ℤ b.step +ℤ a.step *ℤ b.first) (sum_of_places n) n,
      mul-plus (a.step *ℤ b.step) (sum_of_squares n) (n * n),
    )
  where
    mul-plus : (a : ℤ) (m n : ℕ) → a *ℤ pos (m + n) ≡ a *ℤ pos m +ℤ a *ℤ pos n
    mul-plus a m n = mul-add a (pos m) (pos n)

-- ---- as the machine computes it
module _ (x y z : ℤ) (small_x : unsigned_abs x ≤ 2 ^ 123) (small_y : unsigned_abs y ≤ 2 ^ 123) (small_z : unsigned_abs z ≤ 2 ^ 123) where
  pub three_fit : FitsSigned w128 (to_z w128 (of_z w128 (to_z w128 (of_z w128 x) +ℤ to_z w128 (of_z w128 y))) +ℤ to_z w128 (of_z w128 z))
  three_fit = omega (arith, ints)

  pub three_are : to_z w128 (of_z w128 (to_z w128 (of_z w128 (to_z w128 (of_z w128 x) +ℤ to_z w128 (of_z w128 y))) +ℤ to_z w128 (of_z w128 z))) ≡ x +ℤ y +ℤ z
  three_are = omega (arith, ints)

fits : (a : ℤ) → unsigned_abs a ≤ 2 ^ 27 → to_z w64 (of_z w64 a) ≡ a
fits a small = omega (arith, ints)

pub product_is : (a b p : ℤ) → unsigned_abs a ≤ 2 ^ 27 → unsigned_abs b ≤ 2 ^ 27 → p ≡ to_z w64 (of_z w64 a) *ℤ to_z w64 (of_z w64 b) → p ≡ a *ℤ b
product_is a b p small_a small_b e = rw (← fits a small_a, ← fits b small_b) e

pub sum_is : (a b : Progression) (n t s : ℕ) (p00 p01 p10 p11 x y z : ℤ) → p00 ≡ a.first *ℤ b.first → p01 ≡ a.first *ℤ b.step → p10 ≡ a.step *ℤ b.first → p11 ≡ a.step *ℤ b.step → t ≡ sum_of_places n → s ≡ sum_of_squares n
    → unsigned_abs p00 ≤ 2 ^ 54 → unsigned_abs p01 ≤ 2 ^ 54 → unsigned_abs p10 ≤ 2 ^ 54 → unsigned_abs p11 ≤ 2 ^ 54
    → x ≡ to_z w128 (of_z w128 p00) *ℤ pos n → y ≡ to_z w128 (of_z w128 (to_z w128 (of_z w128 p01) +ℤ to_z w128 (of_z w128 p10))) *ℤ pos t → z ≡ to_z w128 (of_z w128 p11) *ℤ pos s → x +ℤ y +ℤ z ≡ sum_of_products a b n
sum_is a b n t s p00 p01 p10 p11 x y z e00 e01 e10 e11 et es n00 n01 n10 n11 ex ey ez =
    let f00 : to_z w128 (of_z w128 p00) ≡ a.first *ℤ b.first = omega (arith, ints) in
    let fm : to_z w128 (of_z w128 (to_z w128 (of_z w128 p01) +ℤ to_z w128 (of_z w128 p10))) ≡ a.first *ℤ b.step +ℤ a.step *ℤ b.first = omega (arith, ints) in
    let f11 : to_z w128 (of_z w128 p11) ≡ a.step *ℤ b.step = omega (arith, ints) in
    rw (ex, ey, ez, f00, fm, f11, et, es) (sym (closed_is a b n))
