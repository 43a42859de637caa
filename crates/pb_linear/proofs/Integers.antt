-- Laws of products and sums of integers.
use Rattle.std.proofs.Common.{◌≡◌, ℕ, zero, suc, ℤ, pos, negsuc, ◌+ℤ◌, ◌*ℤ◌, ◌≤ℤ◌, ap, ◌∙◌, arith}
use Rattle.std.proofs.Math.IntN.{*ℤ_comm, suc_ℤ-*ℤ, *ℤ-zero, zero-*ℤ, *ℤ-negsuc}
use Rattle.std.proofs.lemmas.Int.{ints}

-- one step of the second factor
mul-suc : (a : ℤ) (n : ℕ) → a *ℤ pos (suc n) ≡ a *ℤ pos n +ℤ a
mul-suc a n = *ℤ_comm a (pos (suc n)) ∙ suc_ℤ-*ℤ (pos n) a ∙ ap (λ z. z +ℤ a) (*ℤ_comm (pos n) a)

add-mul-pos : (a b : ℤ) (n : ℕ) → (a +ℤ b) *ℤ pos n ≡ a *ℤ pos n +ℤ b *ℤ pos n
add-mul-pos a b zero = omega (arith, ints, *ℤ-zero (a +ℤ b), *ℤ-zero a, *ℤ-zero b)
add-mul-pos a b (suc n) = omega (arith, ints, add-mul-pos a b n, mul-suc a n, mul-suc b n, mul-suc (a +ℤ b) n)

pub add-mul : (a b c : ℤ) → (a +ℤ b) *ℤ c ≡ a *ℤ c +ℤ b *ℤ c
add-mul a b (pos n) = add-mul-pos a b n
add-mul a b (negsuc n) = omega (arith, ints, add-mul-pos a b (suc n), *ℤ-negsuc a n, *ℤ-negsuc b n, *ℤ-negsuc (a +ℤ b) n)

pub mul-add : (a b c : ℤ) → a *ℤ (b +ℤ c) ≡ a *ℤ b +ℤ a *ℤ c
mul-add a b c = omega (arith, ints, *ℤ_comm a (b +ℤ c), add-mul b c a, *ℤ_comm b a, *ℤ_comm c a)

pub mul-mul : (a b : ℤ) (n : ℕ) → (a *ℤ b) *ℤ pos n ≡ a *ℤ (b *ℤ pos n)
mul-mul a b zero = omega (arith, ints, *ℤ-zero (a *ℤ b), ap (λ z. a *ℤ z) (*ℤ-zero b), *ℤ-zero a)
mul-mul a b (suc n) =
    omega (arith, ints, mul-mul a b n, mul-suc (a *ℤ b) n, ap (λ z. a *ℤ z) (mul-suc b n), mul-add a (b *ℤ pos n) b)

-- a factor above 0 keeps order, one of at most 0 turns it round
pub mul-le : (k : ℕ) (a b : ℤ) → a ≤ℤ b → (pos k *ℤ a) ≤ℤ (pos k *ℤ b)
mul-le zero a b h = omega (arith, ints, zero-*ℤ a, zero-*ℤ b)
mul-le (suc k) a b h = omega (arith, ints, mul-le k a b h, suc_ℤ-*ℤ (pos k) a, suc_ℤ-*ℤ (pos k) b)
