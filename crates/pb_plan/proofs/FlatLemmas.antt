-- Where the elements of lists stand that are made one after another.
use Rattle.std.proofs.Common.{◌≡◌, ◌∙◌, refl, sym, ap, inl, inr, ℕ, zero, suc, ◌+◌, ◌-◌, ◌<◌, List, [], ◌∷◌, ◌++◌, length, slice_get, Some, arith}
use Rattle.std.specs.List.{enumerate_from, flat_map}
use Rattle.std.proofs.lemmas.Bool.{cases_lt}

module _ {A : Type 0} where
  get_left : (xs ys : List A) (i : ℕ) → i < length xs → slice_get (xs ++ ys) i ≡ slice_get xs i
  get_left [] ys i below = absurd (omega (arith, below))
  get_left (x ∷ xs) ys zero below = refl
  get_left (x ∷ xs) ys (suc i) below = get_left xs ys i (omega (arith, below))

  get_right : (xs ys : List A) (i : ℕ) → slice_get (xs ++ ys) (length xs + i) ≡ slice_get ys i
  get_right [] ys i = ap (slice_get ys) (omega arith)
  get_right (x ∷ xs) ys i = let e : suc (length xs) + i ≡ suc (length xs + i) = omega arith in ap (slice_get (x ∷ (xs ++ ys))) e ∙ get_right xs ys i

  pub within : (xs : List A) (i : ℕ) (x : A) → slice_get xs i ≡ Some x → i < length xs
  within [] i x e = absurd (cc)
  within (y ∷ xs) zero x e = omega arith
  within (y ∷ xs) (suc i) x e = omega (arith, within xs i x e)

module _ {A B : Type 0} (f : A → List B) where
  -- how many elements come before those of the one with this number
  abbrev pub start : List A → ℕ → ℕ
  start [] k = 0
  start (x ∷ xs) zero = 0
  start (x ∷ xs) (suc k) = length (f x) + start xs k

  pub flat_at : (xs : List A) (k : ℕ) (x : A) (m : ℕ) (y : B) → slice_get xs k ≡ Some x → slice_get (f x) m ≡ Some y → slice_get (flat_map f xs) (start xs k + m) ≡ Some y
  flat_at [] k x m y e h = absurd (cc)
  flat_at (z ∷ xs) zero x m y e h =
      let same : slice_get (f z) m ≡ Some y = ap (λ (w : A). slice_get (f w) m) (some_is z x e) ∙ h in
      (let at : 0 + m ≡ m = omega arith in ap (slice_get (f z ++ flat_map f xs)) at) ∙ get_left (f z) (flat_map f xs) m (within (f z) m y same) ∙ same
    where
      some_is : (a b : A) → Some a ≡ Some b → a ≡ b
      some_is a b h = cc
  flat_at (z ∷ xs) (suc k) x m y e h = let at : (length (f z) + start xs k) + m ≡ length (f z) + (start xs k + m) = omega arith in ap (slice_get (f z ++ flat_map f xs)) at ∙ get_right (f z) (flat_map f xs) (start xs k + m) ∙ flat_at xs k x m y e h

  -- an element's place
  pub record StandsAt (xs : List A) (i : ℕ) (y : B) : Type 0 where
    pub number : ℕ
    pub of : A
    pub there : slice_get xs number ≡ Some of
    pub place : ℕ
    pub is : slice_get (f of) place ≡ Some y
    pub at : i ≡ start xs number + place

  pub at_flat : (xs : List A) (i : ℕ) (y : B) → slice_get (flat_map f xs) i ≡ Some y → StandsAt xs i y
  at_flat [] i y e = absurd (cc)
  at_flat (x ∷ xs) i y e = elim (cases_lt i (length (f x))) [
    | inl here ↦ record { number = 0; of = x; there = refl; place = i; is = sym (get_left (f x) (flat_map f xs) i here) ∙ e; at = omega arith }
    | inr later ↦
        let back : i ≡ length (f x) + (i - length (f x)) = omega (arith, later) in
        let rest = at_flat xs (i - length (f x)) y (sym (get_right (f x) (flat_map f xs) (i - length (f x))) ∙ ap (slice_get (f x ++ flat_map f xs)) (sym back) ∙ e) in
        record { number = suc rest.number; of = rest.of; there = rest.there; place = rest.place; is = rest.is; at = omega (arith, back, rest.at) }
  ]

  -- what comes earlier stands before
  pub start_before : (xs : List A) (k l : ℕ) (x : A) (m n : ℕ) → slice_get xs k ≡ Some x → m < length (f x) → k < l → start xs k + m < start xs l + n
  start_before [] k l x m n e below less = absurd (cc)
  start_before (z ∷ xs) zero zero x m n e below less = absurd (omega (arith, less))
  start_before (z ∷ xs) zero (suc l) x m n e below less = omega (arith, ap (λ (w : A). length (f w)) (some_is z x e), below)
    where
      some_is : (a b : A) → Some a ≡ Some b → a ≡ b
      some_is a b h = cc
  start_before (z ∷ xs) (suc k) zero x m n e below less = absurd (omega (arith, less))
  start_before (z ∷ xs) (suc k) (suc l) x m n e below less = omega (arith, start_before xs k l x m n e below (omega (arith, less)))

-- ---- elements that pass a test, and numbered ones
module _ {A : Type 0} where
  pub at_numbered : (s : ℕ) (xs : List A) (k : ℕ) (e : ℕ × A) → slice_get (enumerate_from s xs) k ≡ Some e → (e.0 ≡ s + k) × (slice_get xs k ≡ Some e.1)
  at_numbered s [] k e h = absurd (cc)
  at_numbered s (x ∷ xs) zero e h = let same : (s, x) ≡ e = some_is (s, x) e h in (omega (arith, ap (λ (p : ℕ × A). p.0) same), ap (λ (p : ℕ × A). Some p.1) same)
    where
      some_is : (a b : ℕ × A) → Some a ≡ Some b → a ≡ b
      some_is a b h = cc
  at_numbered s (x ∷ xs) (suc k) e h = let rest = at_numbered (s + 1) xs k e h in (omega (arith, rest.0), rest.1)

  pub numbered_at : (s : ℕ) (xs : List A) (k : ℕ) (x : A) → slice_get xs k ≡ Some x → slice_get (enumerate_from s xs) k ≡ Some (s + k, x)
  numbered_at s [] k x h = absurd (cc)
  numbered_at s (y ∷ xs) zero x h = rw (some_is y x h) (let e : s ≡ s + 0 = omega arith in ap (λ n. Some (n, x)) e)
    where
      some_is : (a b : A) → Some a ≡ Some b → a ≡ b
      some_is a b h = cc
  numbered_at s (y ∷ xs) (suc k) x h = numbered_at (s + 1) xs k x h ∙ (let e : (s + 1) + k ≡ s + suc k = omega arith in ap (λ n. Some (n, x)) e)
