-- Lists whose elements have rising keys.
use Rattle.std.proofs.Common.{◌≡◌, refl, ap, ⊎_elim, ℕ, zero, suc, ◌+◌, ◌≤◌, ◌<◌, Bool, true, false, List, [], ◌∷◌, map, slice_get, Some, arith}
use Rattle.std.specs.Prelude.{filter}
use Rattle.std.specs.List.{Contains, enumerate_from, range_with_len}
use Rattle.std.proofs.Math.Bool.{cond}
use Rattle.pb_base.proofs.ListLemmas.{filter_in, in_at, in_cases, in_none, map_in}
use Rattle.std.proofs.lemmas.List.FromFn.{get_or-range_with_len, length-range_with_len}

module _ {A : Type 0} (key : A → ℕ) where
  -- each key is below the later ones
  abbrev pub Rises : List A → Type 0
  Rises [] = Unit {0}
  Rises (x ∷ xs) = ((y : A) → Contains xs y → key x < key y) × Rises xs

  pub rises_filter : (p : A → Bool) (xs : List A) → Rises xs → Rises (filter p xs)
  rises_filter p [] h = tt
  rises_filter p (x ∷ xs) h = by (p x) (rises_filter p xs h.1)
    where
      by : (b : Bool) → Rises (filter p xs) → Rises (cond b (x ∷ filter p xs) (filter p xs))
      by true rest = (λ y c. h.0 y (filter_in p xs y c).0, rest)
      by false rest = rest

  pub rises_one : (xs : List A) → Rises xs → (i j : ℕ) (x y : A) → slice_get xs i ≡ Some x → slice_get xs j ≡ Some y → key x ≡ key y → i ≡ j
  rises_one [] h i j x y e f same = absurd (cc)
  rises_one (z ∷ xs) h zero zero x y e f same = refl
  rises_one (z ∷ xs) h zero (suc j) x y e f same = absurd (omega (arith, h.0 y (in_at xs j y f), ap key (some_is z x e), same))
    where
      some_is : (a b : A) → Some a ≡ Some b → a ≡ b
      some_is a b h = cc
  rises_one (z ∷ xs) h (suc i) zero x y e f same = absurd (omega (arith, h.0 x (in_at xs i x e), ap key (some_is z y f), same))
    where
      some_is : (a b : A) → Some a ≡ Some b → a ≡ b
      some_is a b h = cc
  rises_one (z ∷ xs) h (suc i) (suc j) x y e f same = ap suc (rises_one xs h.1 i j x y e f same)

pub rises_map : {A B : Type 0} (key : A → ℕ) (other : B → ℕ) (f : A → B) → ((x : A) → other (f x) ≡ key x) → (xs : List A) → Rises key xs → Rises other (map f xs)
rises_map key other f same [] h = tt
rises_map key other f same (x ∷ xs) h = (λ y c. let from = map_in f xs y c in omega (arith, h.0 from.0 from.1, same x, same from.0, ap other from.2), rises_map key other f same xs h.1)

pub rises_range : (s n : ℕ) → Rises (λ (k : ℕ). k) (range_with_len s n)
rises_range s zero = tt
rises_range s (suc n) = (λ y c. let below : c.0 < n = omega (arith, c.1, length-range_with_len (s + 1) n) in omega (arith, below, c.2, get_or-range_with_len (s + 1) n c.0 y below), rises_range (s + 1) n)

pub rises_numbered : {A : Type 0} (s : ℕ) (xs : List A) → Rises (λ (e : ℕ × A). e.0) (enumerate_from s xs)
rises_numbered s [] = tt
rises_numbered s (x ∷ xs) = (λ y c. omega (arith, later (s + 1) xs y c), rises_numbered (s + 1) xs)
  where
    later : {A : Type 0} (t : ℕ) (xs : List A) (e : ℕ × A) → Contains (enumerate_from t xs) e → t ≤ e.0
    later t [] e c = absurd (in_none e c)
    later t (x ∷ xs) e c = ⊎_elim (λ here. omega (arith, ap (λ (p : ℕ × _). p.0) here)) (λ there. omega (arith, later (t + 1) xs e there)) (in_cases (t, x) e (enumerate_from (t + 1) xs) c)
