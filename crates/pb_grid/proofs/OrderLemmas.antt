-- Lists in order, and where an element stands beside two neighbours.
use Rattle.std.proofs.Common.{◌≡◌, ◌∙◌, refl, sym, ap, inl, inr, ◌⊎◌, Bool, true, false, ◌&&◌, ◌||◌, not, List, [], ◌∷◌, Option, Some, None}
use Rattle.std.specs.Prelude.{option_map}
use Rattle.std.specs.List.{AllByRecursion, find, list_all, list_any}
use Rattle.std.specs.Option.{option_or}
use Rattle.std.proofs.Math.Bool.{cond}
use Rattle.std.proofs.lemmas.Bool.{and_parts}
use Rattle.pb_grid.specs.Lists.{first_pair, in_order, neighbours, pairs_from, placed}

and_swap : (a b c : Bool) → (a && (b && c)) ≡ (b && (a && c))
and_swap true true c = refl
and_swap true false c = refl
and_swap false true c = refl
and_swap false false c = refl

or_swap : (a b c : Bool) → (a || (b || c)) ≡ (b || (a || c))
or_swap true true c = refl
or_swap true false c = refl
or_swap false true c = refl
or_swap false false c = refl

pub both : (a b : Bool) → a ≡ true → b ≡ true → (a && b) ≡ true
both a b h k = rw (h, k) refl

-- a test that passes here or later
pub or_cases : (a b : Bool) → (a || b) ≡ true → (a ≡ true) ⊎ ((a ≡ false) × (b ≡ true))
or_cases true b h = inl refl
or_cases false b h = inr (refl, h)

module _ {A : Type 0} (le : A → A → Bool) where
  -- ---- what is said of all or some elements is said of them in order
  all_step : (p : A → Bool) (x y : A) (ys l : List A) (b : Bool) → list_all p l ≡ (p x && list_all p ys) → list_all p (cond b (x ∷ y ∷ ys) (y ∷ l)) ≡ (p x && (p y && list_all p ys))
  all_step p x y ys l true h = refl
  all_step p x y ys l false h = ap (λ t. p y && t) h ∙ and_swap (p y) (p x) (list_all p ys)

  list_all-placed : (p : A → Bool) (x : A) (ys : List A) → list_all p (placed le x ys) ≡ (p x && list_all p ys)
  list_all-placed p x [] = refl
  list_all-placed p x (y ∷ ys) = all_step p x y ys (placed le x ys) (le x y) (list_all-placed p x ys)

  any_step : (p : A → Bool) (x y : A) (ys l : List A) (b : Bool) → list_any p l ≡ (p x || list_any p ys) → list_any p (cond b (x ∷ y ∷ ys) (y ∷ l)) ≡ (p x || (p y || list_any p ys))
  any_step p x y ys l true h = refl
  any_step p x y ys l false h = ap (λ t. p y || t) h ∙ or_swap (p y) (p x) (list_any p ys)

  list_any-placed : (p : A → Bool) (x : A) (ys : List A) → list_any p (placed le x ys) ≡ (p x || list_any p ys)
  list_any-placed p x [] = refl
  list_any-placed p x (y ∷ ys) = any_step p x y ys (placed le x ys) (le x y) (list_any-placed p x ys)

  list_all-in_order : (p : A → Bool) (xs : List A) → list_all p (in_order le xs) ≡ list_all p xs
  list_all-in_order p [] = refl
  list_all-in_order p (x ∷ xs) = list_all-placed p x (in_order le xs) ∙ ap (λ t. p x && t) (list_all-in_order p xs)

  pub list_any-in_order : (p : A → Bool) (xs : List A) → list_any p (in_order le xs) ≡ list_any p xs
  list_any-in_order p [] = refl
  list_any-in_order p (x ∷ xs) = list_any-placed p x (in_order le xs) ∙ ap (λ t. p x || t) (list_any-in_order p xs)

  -- each element is at most all later ones
  abbrev pub Rises : List A → Type 0
  Rises [] = Unit {0}
  Rises (x ∷ xs) = (list_all (le x) xs ≡ true) × Rises xs

  -- an element that crosses none is comparable with all
  comparable_step : (x y : A) (ys : List A) (a b : Bool) (o : Option A) → cond (not a && not b) (Some y) o ≡ None → (o ≡ None → list_all (λ y. le x y || le y x) ys ≡ true) → ((a || b) && list_all (λ y. le x y || le y x) ys) ≡ true
  comparable_step x y ys true b o h rest = rest h
  comparable_step x y ys false true o h rest = rest h
  comparable_step x y ys false false o h rest = absurd (let e : Some y ≡ None = h in cc)

  comparable : (x : A) (xs : List A) → find (λ y. not (le x y) && not (le y x)) xs ≡ None → list_all (λ y. le x y || le y x) xs ≡ true
  comparable x [] h = refl
  comparable x (y ∷ ys) h = comparable_step x y ys (le x y) (le y x) _ h (comparable x ys)

  module _ (trans : (a b c : A) → le a b ≡ true → le b c ≡ true → le a c ≡ true) where
    all_later : (x y : A) (zs : List A) → le x y ≡ true → list_all (le y) zs ≡ true → list_all (le x) zs ≡ true
    all_later x y [] h k = refl
    all_later x y (z ∷ zs) h k = let parts = and_parts (le y z) (list_all (le y) zs) k in both (le x z) (list_all (le x) zs) (trans x y z h parts.0) (all_later x y zs h parts.1)

    other : (a b : Bool) → (a || b) ≡ true → a ≡ false → b ≡ true
    other a b h n = rw n at h

    rises_step : (x y : A) (ys l : List A) (b : Bool) → le x y ≡ b → le y x ≡ true ⊎ (le x y ≡ true) → Rises (y ∷ ys) → Rises l → list_all (le y) l ≡ (le y x && list_all (le y) ys) → Rises (cond b (x ∷ y ∷ ys) (y ∷ l))
    rises_step x y ys l true e c r k same = (both (le x y) (list_all (le x) ys) e (all_later x y ys e r.0), r)
    rises_step x y ys l false e (inl c) r k same = (same ∙ both (le y x) (list_all (le y) ys) c r.0, k)
    rises_step x y ys l false e (inr c) r k same = absurd (let f = sym e ∙ c in cc)

    either : (a b : Bool) → (a || b) ≡ true → (b ≡ true) ⊎ (a ≡ true)
    either true b h = inr refl
    either false b h = inl h

    rises_placed : (x : A) (ys : List A) → list_all (λ y. le x y || le y x) ys ≡ true → Rises ys → Rises (placed le x ys)
    rises_placed x [] c r = (refl, tt)
    rises_placed x (y ∷ ys) c r =
        let parts = and_parts (le x y || le y x) (list_all (λ y. le x y || le y x) ys) c in
        rises_step x y ys (placed le x ys) (le x y) refl (either (le x y) (le y x) parts.0) r (rises_placed x ys parts.1 r.1) (list_all-placed (le y) x ys)

    rises_found : (x : A) (xs : List A) (o : Option A) → find (λ y. not (le x y) && not (le y x)) xs ≡ o → option_or (option_map (λ y. (x, y)) o) (first_pair (λ a b. not (le a b) && not (le b a)) xs) ≡ None → (first_pair (λ a b. not (le a b) && not (le b a)) xs ≡ None → Rises (in_order le xs)) → Rises (placed le x (in_order le xs))
    rises_found x xs None e h rest = rises_placed x (in_order le xs) (list_all-in_order (λ y. le x y || le y x) xs ∙ comparable x xs e) (rest h)
    rises_found x xs (Some y) e h rest = absurd (let f : Some (x, y) ≡ None = h in cc)

    -- elements no two of which cross rise in order
    pub rises : (xs : List A) → first_pair (λ a b. not (le a b) && not (le b a)) xs ≡ None → Rises (in_order le xs)
    rises [] h = tt
    rises (x ∷ xs) h = rises_found x xs (find (λ y. not (le x y) && not (le y x)) xs) refl h (rises xs)

    -- ---- an element beside two neighbours
    abbrev pub Beside : A → A × A → Type 0
    Beside m g = (le m g.0 ≡ true) ⊎ (le g.1 m ≡ true)

    before_all : (m x : A) (xs : List A) → Rises (x ∷ xs) → le m x ≡ true → AllByRecursion (Beside m) (pairs_from x xs)
    before_all m x [] r h = tt
    before_all m x (y ∷ ys) r h = (inl h, before_all m y ys r.1 (trans m x y h (and_parts (le x y) (list_all (le x) ys) r.0).0))

    least_of : (m y : A) (ys : List A) → list_all (le y) ys ≡ true → list_any (λ z. le z m && le m z) ys ≡ true → le y m ≡ true
    least_of m y [] all any = absurd (let e : false ≡ true = any in cc)
    least_of m y (z ∷ zs) all any =
        let parts = and_parts (le y z) (list_all (le y) zs) all in
        elim (or_cases (le z m && le m z) (list_any (λ z. le z m && le m z) zs) any) [
          | inl here ↦ trans y z m parts.0 (and_parts (le z m) (le m z) here).0
          | inr later ↦ least_of m y zs parts.1 later.1
        ]

    first_least : (m y : A) (ys : List A) → list_all (le y) ys ≡ true → list_any (λ z. le z m && le m z) (y ∷ ys) ≡ true → le y m ≡ true
    first_least m y ys all any = elim (or_cases (le y m && le m y) (list_any (λ z. le z m && le m z) ys) any) [
      | inl here ↦ (and_parts (le y m) (le m y) here).0
      | inr later ↦ least_of m y ys all later.1
    ]

    beside_from : (m x : A) (xs : List A) → Rises (x ∷ xs) → list_any (λ z. le z m && le m z) (x ∷ xs) ≡ true → AllByRecursion (Beside m) (pairs_from x xs)
    beside_from m x [] r any = tt
    beside_from m x (y ∷ ys) r any = elim (or_cases (le x m && le m x) (list_any (λ z. le z m && le m z) (y ∷ ys)) any) [
      | inl here ↦ before_all m x (y ∷ ys) r (and_parts (le x m) (le m x) here).1
      | inr later ↦ (inr (first_least m y ys r.1.0 later.1), beside_from m y ys r.1 later.1)
    ]

    pub beside : (m : A) (xs : List A) → Rises xs → list_any (λ z. le z m && le m z) xs ≡ true → AllByRecursion (Beside m) (neighbours xs)
    beside m [] r any = tt
    beside m (x ∷ xs) r any = beside_from m x xs r any
