-- What lists that are made of others contain.
use Rattle.std.proofs.Common.{◌≡◌, ◌∙◌, refl, sym, ap, subst, inl, inr, ◌⊎◌, ◌↔◌, ℕ, zero, suc, ◌<◌, Bool, true, false, List, [], ◌∷◌, map, slice_get, Some, None, arith}
use Rattle.std.specs.Prelude.{filter}
use Rattle.std.specs.List.{AllByRecursion, Contains, flat_map, list_all, range_with_len}
use Rattle.std.proofs.Math.Bool.{cond}
use Rattle.std.proofs.lemmas.Bool.{and_parts}
use Rattle.std.proofs.lemmas.List.Elements.{Contains-append_cases, Contains-append_left, Contains-append_right}
use Rattle.std.proofs.lemmas.List.FromFn.{get_or-range_with_len, length-range_with_len}

module _ {A : Type 0} where
  pub in_head : (x : A) (xs : List A) → Contains (x ∷ xs) x
  in_head x xs = (0, omega arith, refl)

  pub in_tail : (y x : A) (xs : List A) → Contains xs x → Contains (y ∷ xs) x
  in_tail y x xs h = (suc h.0, omega (arith, h.1), h.2)

  pub in_cases : (y x : A) (xs : List A) → Contains (y ∷ xs) x → (y ≡ x) ⊎ Contains xs x
  in_cases y x xs (zero, below, is) = inl is
  in_cases y x xs (suc k, below, is) = inr (k, omega arith, is)

  pub in_none : (x : A) → Contains [] x → ⊥
  in_none x h = omega (arith, h.1)

  pub in_at : (xs : List A) (k : ℕ) (x : A) → slice_get xs k ≡ Some x → Contains xs x
  in_at [] k x e = let none : None ≡ Some x = e in absurd (cc)
  in_at (y ∷ xs) zero x e = let some : Some y ≡ Some x = e in let same : y ≡ x = cc in subst (Contains (y ∷ xs)) same (in_head y xs)
  in_at (y ∷ xs) (suc k) x e = in_tail y x xs (in_at xs k x e)

  pub at_in : (xs : List A) (x : A) → Contains xs x → (k : ℕ) × (slice_get xs k ≡ Some x)
  at_in [] x h = absurd (in_none x h)
  at_in (y ∷ xs) x h = elim (in_cases y x xs h) [
    | inl same ↦ (0, ap (λ z. Some z) same)
    | inr later ↦ let rest = at_in xs x later in (suc rest.0, rest.1)
  ]

  module _ (p : A → Bool) where
    kept : (y x : A) (xs : List A) (b : Bool) → p y ≡ b → Contains (cond b (y ∷ filter p xs) (filter p xs)) x → (Contains (filter p xs) x → Contains xs x × (p x ≡ true)) → Contains (y ∷ xs) x × (p x ≡ true)
    kept y x xs false e h rest = let r = rest h in (in_tail y x xs r.0, r.1)
    kept y x xs true e h rest = elim (in_cases y x (filter p xs) h) [
      | inl same ↦ (subst (Contains (y ∷ xs)) same (in_head y xs), ap p (sym same) ∙ e)
      | inr later ↦ let r = rest later in (in_tail y x xs r.0, r.1)
    ]

    pub filter_in : (xs : List A) (x : A) → Contains (filter p xs) x → Contains xs x × (p x ≡ true)
    filter_in [] x h = absurd (in_none x h)
    filter_in (y ∷ xs) x h = kept y x xs (p y) refl h (filter_in xs x)

    keep : (y x : A) (l : List A) (b : Bool) → p y ≡ b → p x ≡ true → (y ≡ x) ⊎ Contains l x → Contains (cond b (y ∷ l) l) x
    keep y x l true e t (inl same) = subst (Contains (y ∷ l)) same (in_head y l)
    keep y x l true e t (inr later) = in_tail y x l later
    keep y x l false e t (inl same) = let wrong = ap p same in absurd (cc)
    keep y x l false e t (inr later) = later

    later : (y x : A) (xs l : List A) → (Contains xs x → Contains l x) → (y ≡ x) ⊎ Contains xs x → (y ≡ x) ⊎ Contains l x
    later y x xs l f (inl same) = inl same
    later y x xs l f (inr h) = inr (f h)

    pub in_filter : (xs : List A) (x : A) → Contains xs x → p x ≡ true → Contains (filter p xs) x
    in_filter [] x h t = absurd (in_none x h)
    in_filter (y ∷ xs) x h t = keep y x (filter p xs) (p y) refl t (later y x xs (filter p xs) (λ k. in_filter xs x k t) (in_cases y x xs h))

module _ {A B : Type 0} (f : A → B) where
  pub map_in : (xs : List A) (y : B) → Contains (map f xs) y → (x : A) × Contains xs x × (f x ≡ y)
  map_in [] y h = absurd (in_none y h)
  map_in (x ∷ xs) y h = elim (in_cases (f x) y (map f xs) h) [
    | inl same ↦ (x, in_head x xs, same)
    | inr later ↦ let rest = map_in xs y later in (rest.0, in_tail x rest.0 xs rest.1, rest.2)
  ]

  pub in_map : (xs : List A) (x : A) → Contains xs x → Contains (map f xs) (f x)
  in_map [] x h = absurd (in_none x h)
  in_map (y ∷ xs) x h = elim (in_cases y x xs h) [
    | inl same ↦ subst (λ z. Contains (f y ∷ map f xs) (f z)) same (in_head (f y) (map f xs))
    | inr later ↦ in_tail (f y) (f x) (map f xs) (in_map xs x later)
  ]

module _ {A B : Type 0} (f : A → List B) where
  pub flat_in : (xs : List A) (y : B) → Contains (flat_map f xs) y → (x : A) × Contains xs x × Contains (f x) y
  flat_in [] y h = absurd (in_none y h)
  flat_in (x ∷ xs) y h = elim (Contains-append_cases (f x) (flat_map f xs) y h) [
    | inl here ↦ (x, in_head x xs, here)
    | inr later ↦ let rest = flat_in xs y later in (rest.0, in_tail x rest.0 xs rest.1, rest.2)
  ]

  pub in_flat : (xs : List A) (x : A) (y : B) → Contains xs x → Contains (f x) y → Contains (flat_map f xs) y
  in_flat [] x y h k = absurd (in_none x h)
  in_flat (z ∷ xs) x y h k = elim (in_cases z x xs h) [
    | inl same ↦ Contains-append_left (f z) (flat_map f xs) y (subst (λ a. Contains (f a) y) (sym same) k)
    | inr later ↦ Contains-append_right (f z) (flat_map f xs) y (in_flat xs x y later k)
  ]

-- the numbers below another
pub range_in : (n k : ℕ) → Contains (range_with_len 0 n) k → k < n
range_in n k h = let below : h.0 < n = omega (arith, h.1, length-range_with_len 0 n) in omega (arith, below, h.2, get_or-range_with_len 0 n h.0 k below)

pub in_range : (n k : ℕ) → k < n → Contains (range_with_len 0 n) k
in_range n k below = (k, omega (arith, length-range_with_len 0 n), omega (arith, get_or-range_with_len 0 n k k below))

-- a test of all elements, and each element
pub all_test : {A : Type 0} (p : A → Bool) (P : A → Type 0) → ((x : A) → (p x ≡ true) ↔ P x) → (xs : List A) → (list_all p xs ≡ true) ↔ AllByRecursion P xs
all_test p P each [] = (λ h. tt, λ h. refl)
all_test p P each (x ∷ xs) =
    let rest = all_test p P each xs in (
      λ h. let parts = and_parts (p x) (list_all p xs) h in ((each x).0 parts.0, rest.0 parts.1),
      λ h. let here = (each x).1 h.0 in let later = rest.1 h.1 in rw (here, later) refl,
    )

pub all_each : {A : Type 0} (p : A → Bool) (xs : List A) (x : A) → list_all p xs ≡ true → Contains xs x → p x ≡ true
all_each p [] x h c = absurd (in_none x c)
all_each p (y ∷ xs) x h c = let parts = and_parts (p y) (list_all p xs) h in elim (in_cases y x xs c) [
  | inl same ↦ ap p (sym same) ∙ parts.0
  | inr later ↦ all_each p xs x parts.1 later
]

pub each_all : {A : Type 0} (p : A → Bool) (xs : List A) → ((x : A) → Contains xs x → p x ≡ true) → list_all p xs ≡ true
each_all p [] h = refl
each_all p (x ∷ xs) h = let here = h x (in_head x xs) in let later = each_all p xs (λ y c. h y (in_tail x y xs c)) in rw (here, later) refl
