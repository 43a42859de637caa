-- How many gaps between rising values hold a value, and what a bound beside a gap says there.
use Rattle.std.proofs.Common.{◌≡◌, ◌∙◌, refl, sym, ap, inl, inr, suc, Bool, true, false, ◌&&◌, ◌||◌, List, [], ◌∷◌, length, ℤ, ◌≤ℤ◌, ◌<ℤ◌, int_le, int_lt, arith}
use Rattle.std.specs.Prelude.{filter}
use Rattle.std.specs.List.{list_all, list_any}
use Rattle.std.proofs.lemmas.Bool.{and_parts}
use Rattle.std.proofs.lemmas.Int.{ints}
use Rattle.pb_grid.specs.Lists.{neighbours, pairs_from}
use Rattle.pb_grid.proofs.OrderLemmas.{Beside, Rises, or_cases}

le_true : (a b : ℤ) → a ≤ℤ b → int_le a b ≡ true
le_true a b h = grind (arith, ints)

lt_true : (a b : ℤ) → a <ℤ b → int_lt a b ≡ true
lt_true a b h = grind (arith, ints)

pub true_le : (a b : ℤ) → int_le a b ≡ true → a ≤ℤ b
true_le a b h = grind (arith, ints)

pub true_lt : (a b : ℤ) → int_lt a b ≡ true → a <ℤ b
true_lt a b h = grind (arith, ints)

lt_false : (a b : ℤ) → b ≤ℤ a → int_lt a b ≡ false
lt_false a b h = grind (arith, ints)

le_false : (a b : ℤ) → b <ℤ a → int_le a b ≡ false
le_false a b h = grind (arith, ints)

false_lt : (a b : ℤ) → int_lt a b ≡ false → b ≤ℤ a
false_lt a b h = grind (arith, ints)

-- the value lies between those of two elements
abbrev pub is_between : {A : Type 0} → (A → ℤ) → ℤ → A × A → Bool
is_between f v g = int_le (f g.0) v && int_lt v (f g.1)

module _ {A : Type 0} (le : A → A → Bool) (f : A → ℤ) (sound : (a b : A) → le a b ≡ true → f a ≤ℤ f b) (v : ℤ) where
  none_after : (x : A) (xs : List A) → Rises le (x ∷ xs) → v <ℤ f x → length (filter (is_between f v) (pairs_from x xs)) ≡ 0
  none_after x [] r above = refl
  none_after x (y ∷ ys) r above =
      let more = sound x y (and_parts (le x y) (list_all (le x) ys) r.0).0 in
      rw (le_false (f x) v above) (none_after y ys r.1 (omega (arith, ints)))

  one_step : (x y : A) (ys : List A) (b : Bool) → int_lt v (f y) ≡ b → Rises le (y ∷ ys) → f x ≤ℤ v → (b || list_any (λ z. int_lt v (f z)) ys) ≡ true
      → (f y ≤ℤ v → list_any (λ z. int_lt v (f z)) ys ≡ true → length (filter (is_between f v) (pairs_from y ys)) ≡ 1) → length (filter (is_between f v) ((x, y) ∷ pairs_from y ys)) ≡ 1
  one_step x y ys true e r low any rest = rw (le_true (f x) v low, e) (ap suc (none_after y ys r (true_lt v (f y) e)))
  one_step x y ys false e r low any rest = rw (le_true (f x) v low, e) (rest (false_lt v (f y) e) any)

  one_from : (x : A) (xs : List A) → Rises le (x ∷ xs) → f x ≤ℤ v → list_any (λ z. int_lt v (f z)) xs ≡ true → length (filter (is_between f v) (pairs_from x xs)) ≡ 1
  one_from x [] r low any = absurd (let e : false ≡ true = any in cc)
  one_from x (y ∷ ys) r low any = one_step x y ys (int_lt v (f y)) refl r.1 low any (one_from y ys r.1)

  low_first : (x : A) (xs : List A) → list_all (le x) xs ≡ true → list_any (λ z. int_le (f z) v) xs ≡ true → f x ≤ℤ v
  low_first x [] all any = absurd (let e : false ≡ true = any in cc)
  low_first x (y ∷ ys) all any =
      let parts = and_parts (le x y) (list_all (le x) ys) all in
      elim (or_cases (int_le (f y) v) (list_any (λ z. int_le (f z) v) ys) any) [
        | inl here ↦ omega (arith, ints, sound x y parts.0, true_le (f y) v here)
        | inr later ↦ low_first x ys parts.1 later.1
      ]

  -- where some element is at most the value, and some above it, one gap holds it
  pub one_gap : (xs : List A) → Rises le xs → list_any (λ z. int_le (f z) v) xs ≡ true → list_any (λ z. int_lt v (f z)) xs ≡ true → length (filter (is_between f v) (neighbours xs)) ≡ 1
  one_gap [] r low high = absurd (let e : false ≡ true = low in cc)
  one_gap (x ∷ xs) r low high =
      let first : f x ≤ℤ v = elim (or_cases (int_le (f x) v) (list_any (λ z. int_le (f z) v) xs) low) [ inl here ↦ true_le (f x) v here | inr later ↦ low_first x xs r.0 later.1 ] in
      let more : list_any (λ z. int_lt v (f z)) xs ≡ true = rw (lt_false v (f x) first) at high in
      one_from x xs r first more

  -- what a bound says at the value, its tests say of a gap that holds the value and that it stands beside
  module _ (trans : (a b c : A) → le a b ≡ true → le b c ≡ true → le a c ≡ true) (g : A × A) (at : is_between f v g ≡ true) (m : A) where
    from_low : f g.0 ≤ℤ v
    from_low = true_le (f g.0) v (and_parts (int_le (f g.0) v) (int_lt v (f g.1)) at).0

    to_high : v <ℤ f g.1
    to_high = true_lt v (f g.1) (and_parts (int_le (f g.0) v) (int_lt v (f g.1)) at).1

    not_low : (b : Bool) → le m g.0 ≡ b → v <ℤ f m → b ≡ false
    not_low true e above = absurd (omega (arith, ints, sound m g.0 e, from_low))
    not_low false e above = refl

    not_high : (b : Bool) → le g.1 m ≡ b → f m ≤ℤ v → b ≡ false
    not_high true e below = absurd (omega (arith, ints, sound g.1 m e, to_high))
    not_high false e below = refl

    pub lower_test : Beside le trans m g → le m g.0 ≡ int_le (f m) v
    lower_test (inl e) = e ∙ sym (le_true (f m) v (omega (arith, ints, sound m g.0 e, from_low)))
    lower_test (inr e) =
        let above : v <ℤ f m = omega (arith, ints, sound g.1 m e, to_high) in
        not_low (le m g.0) refl above ∙ sym (le_false (f m) v above)

    pub upper_test : Beside le trans m g → le g.1 m ≡ int_lt v (f m)
    upper_test (inr e) = e ∙ sym (lt_true v (f m) (omega (arith, ints, sound g.1 m e, to_high)))
    upper_test (inl e) =
        let below : f m ≤ℤ v = omega (arith, ints, sound m g.0 e, from_low) in
        not_high (le g.1 m) refl below ∙ sym (lt_false v (f m) below)
