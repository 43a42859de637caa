-- The least of places that are found one after the other.
use Rattle.std.proofs.Common.{◌≡◌, ℕ, zero, suc, ◌+◌, ◌<◌, ◌≤◌, min, List, [], ◌∷◌, ◌++◌, Option, Some, None, length, get_or, drop, ◌⊎◌, inl, inr, refl, ap, subst, ◌∙◌, sym, arith, add-one}
use Rattle.std.proofs.Math.Seq.{drop-cons}
use Rattle.std.proofs.lemmas.List.{drop_all}
use Rattle.std.specs.List.{flat_map, AllByRecursion}
use Rattle.pb_types.specs.Least.{IsLeast, least, least_of}

pub least_none : least_of [] ≡ None
unfolding least_of
least_none = refl

pub least_one : (at : ℕ) → least_of (at ∷ []) ≡ Some at
unfolding least_of
least_one at = refl

min_assoc : (x y z : ℕ) → min x (min y z) ≡ min (min x y) z
min_assoc x y z = omega arith

pub least_assoc : (a b c : Option ℕ) → least a (least b c) ≡ least (least a b) c
least_assoc None b c = refl
least_assoc (Some x) None c = refl
least_assoc (Some x) (Some y) None = refl
least_assoc (Some x) (Some y) (Some z) = ap (λ n. Some n) (min_assoc x y z)

pub least_alone : (a : Option ℕ) → least a None ≡ a
least_alone None = refl
least_alone (Some x) = refl

pub least_append : (xs ys : List ℕ) → least_of (xs ++ ys) ≡ least (least_of xs) (least_of ys)
unfolding least_of
least_append [] ys = refl
least_append (x ∷ xs) ys = ap (least (Some x)) (least_append xs ys) ∙ least_assoc (Some x) (least_of xs) (least_of ys)

module _ {A : Type 0} (places : A → List ℕ) where
  -- what is left of a list begins with its next item
  left_at : (xs : List A) (i : ℕ) (d : A) → i < length xs → flat_map places (drop i xs) ≡ places (get_or xs i d) ++ flat_map places (drop (i + 1) xs)
  left_at xs i d within = rw (add-one, drop-cons xs i d) refl

  pub least_at : (xs : List A) (i : ℕ) (d : A) (found next : Option ℕ) → least found (least_of (flat_map places (drop i xs))) ≡ least_of (flat_map places xs)
      → next ≡ least_of (places (get_or xs i d)) → i < length xs
      → least (least found next) (least_of (flat_map places (drop (i + 1) xs))) ≡ least_of (flat_map places xs)
  least_at xs i d found next before is within =
      sym (least_assoc found next (least_of (flat_map places (drop (i + 1) xs)))) ∙ ap (λ n. least found (least n (least_of (flat_map places (drop (i + 1) xs))))) is
      ∙ ap (least found) (sym (least_append (places (get_or xs i d)) (flat_map places (drop (i + 1) xs))) ∙ ap least_of (sym (left_at xs i d within))) ∙ before

  pub least_next : (xs : List A) (i : ℕ) (x : A) (found next : Option ℕ) → least found (least_of (flat_map places (drop i xs))) ≡ least_of (flat_map places xs)
      → next ≡ least_of (places x) → i < length xs → x ≡ get_or xs i x
      → least (least found next) (least_of (flat_map places (drop (i + 1) xs))) ≡ least_of (flat_map places xs)
  least_next xs i x found next before is within here = least_at xs i x found next before (is ∙ ap (λ y. least_of (places y)) here) within

  pub least_end : (xs : List A) (i : ℕ) (found : Option ℕ) → least found (least_of (flat_map places (drop i xs))) ≡ least_of (flat_map places xs) → length xs ≤ i
      → found ≡ least_of (flat_map places xs)
  least_end xs i found before end =
      sym (least_alone found) ∙ ap (least found) (sym least_none ∙ ap (λ l. least_of (flat_map places l)) (sym (drop_all i xs end))) ∙ before

-- there is no least place where there is no place
pub least_is_none : (places : List ℕ) → least_of places ≡ None → places ≡ []
unfolding least_of
least_is_none [] e = refl
least_is_none (x ∷ xs) e = some_least x (least_of xs) e
  where
    some_least : (x : ℕ) (a : Option ℕ) → least (Some x) a ≡ None → x ∷ xs ≡ []
    some_least x None e = cc
    some_least x (Some y) e = cc

below : (a b : ℕ) (places : List ℕ) → a ≤ b → AllByRecursion (λ p. b ≤ p) places → AllByRecursion (λ p. a ≤ p) places
below a b [] less h = tt {0}
below a b (p ∷ places) less h = (omega arith, below a b places less h.1)

first_least : (x : ℕ) (places : List ℕ) → AllByRecursion (λ p. x ≤ p) places → IsLeast x (x ∷ places)
first_least x places h = record { there = (0, omega arith, refl); least = (omega arith, h) }

rest_least : (x at : ℕ) (places : List ℕ) → at ≤ x → IsLeast at places → IsLeast at (x ∷ places)
rest_least x at places less h = record { there = (suc h.there.0, omega arith, h.there.2); least = (less, h.least) }

le_cases : (x y : ℕ) → (x ≤ y) ⊎ (y ≤ x)
le_cases zero y = inl (omega arith)
le_cases (suc x) zero = inr (omega arith)
le_cases (suc x) (suc y) = elim (le_cases x y) [ inl l ↦ inl (omega arith) | inr l ↦ inr (omega arith) ]

-- the least of a place and some others
with_rest : (x at : ℕ) (xs : List ℕ) (a : Option ℕ) → least_of xs ≡ a → ((y : ℕ) → least_of xs ≡ Some y → IsLeast y xs) → least (Some x) a ≡ Some at → IsLeast at (x ∷ xs)
with_rest x at xs None none rest e =
    let h : x ≡ at = cc in subst (λ p. IsLeast p (x ∷ xs)) h (first_least x xs (subst (AllByRecursion (λ p. x ≤ p)) (sym (least_is_none xs none)) (tt {0})))
with_rest x at xs (Some y) is rest e =
    let h : min x y ≡ at = cc in
    elim (le_cases x y) [
      | inl l ↦ let k : x ≡ at = omega arith in subst (λ p. IsLeast p (x ∷ xs)) k (first_least x xs (below x y xs l (rest y is).least))
      | inr l ↦ let k : y ≡ at = omega arith in subst (λ p. IsLeast p (x ∷ xs)) k (rest_least x y xs l (rest y is))
    ]

-- the least place is there, and none is before it
pub least_is_some : (places : List ℕ) (at : ℕ) → least_of places ≡ Some at → IsLeast at places
unfolding least_of
least_is_some [] at e = cc
least_is_some (x ∷ xs) at e = with_rest x at xs (least_of xs) refl (least_is_some xs) e

-- two lists with no place
pub none_left : (xs ys : List ℕ) → xs ++ ys ≡ [] → xs ≡ []
none_left [] ys e = refl
none_left (x ∷ xs) ys e = cc

pub none_right : (xs ys : List ℕ) → xs ++ ys ≡ [] → ys ≡ []
none_right [] ys e = e
none_right (x ∷ xs) ys e = cc
