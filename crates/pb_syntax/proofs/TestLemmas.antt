-- What the outcome of a test says.
use Rattle.std.proofs.Common.{◌≡◌, ℕ, zero, suc, ◌<◌, Bool, true, false, ◌&&◌, ◌==◌, ◌⊎◌, inl, inr, cond, refl, subst, arith}
use Rattle.std.proofs.lemmas.Bool.{cases_lt}
use Rattle.std.proofs.lemmas.Bool.Decides.{nat_tests}

pub is_byte : (a k : ℕ) → (a == k) ≡ true → a ≡ k
is_byte a k e = grind (arith, nat_tests)

pub if_parts : {A : Type 0} (b : Bool) (x y z : A) → cond b x y ≡ z → ((b ≡ true) × (x ≡ z)) ⊎ ((b ≡ false) × (y ≡ z))
if_parts true x y z e = inl (refl, e)
if_parts false x y z e = inr (refl, e)

pub and_parts : (a b : Bool) → (a && b) ≡ true → (a ≡ true) × (b ≡ true)
and_parts true b e = (refl, e)
and_parts false b e = absurd (cc)

-- a table of the signs
abbrev pub below : (ℕ → Bool) → ℕ → Bool
below test zero = true
below test (suc n) = test n && below test n

pub each : (test : ℕ → Bool) (n p : ℕ) → below test n ≡ true → p < n → test p ≡ true
each test zero p h less = absurd (omega arith)
each test (suc n) p h less =
    let both = and_parts (test n) (below test n) h in
    elim (cases_lt p n) [ inl before ↦ each test n p both.1 before | inr past ↦ subst (λ i. test i ≡ true) (omega arith) both.0 ]
