-- The types of a program are right, or it is refused for one place.
use Rattle.std.proofs.Common.{◌≡◌, ℕ, zero, suc, ◌<◌, ◌≤◌, List, [], ◌∷◌, length, get_or, Option, Some, None, ◌⊎◌, inl, inr, refl, ap, subst, arith}
use Rattle.std.specs.List.{AllByRecursion}
use Rattle.pb_program.specs.Trees.{ProgTransform}
use Rattle.pb_syntax.specs.declared.refusal.Refusal.{Refusal}
use Rattle.pb_syntax.specs.declared.refusal.Refusal.TheVariants.{BadType}
use Rattle.pb_types.specs.Least.{IsLeast, least, least_of}
use Rattle.pb_types.specs.Types.{broken, IsRefused}
use Rattle.pb_types.proofs.LeastLemmas.{least_is_some}

some_by : (x : ℕ) (xs : List ℕ) (a : Option ℕ) → least_of xs ≡ a → (at : ℕ) × (least_of (x ∷ xs) ≡ Some at)
unfolding least_of
some_by x xs None e = (x, ap (least (Some x)) e)
some_by x xs (Some y) e = (_, ap (least (Some x)) e)

least_or_none : (places : List ℕ) → (places ≡ []) ⊎ ((at : ℕ) × IsLeast at places)
least_or_none [] = inl refl
least_or_none (x ∷ xs) = let found = some_by x xs (least_of xs) refl in inr (found.0, least_is_some (x ∷ xs) found.0 found.1)

pub right_or_refused : (ts : List ProgTransform) → (broken ts ≡ []) ⊎ ((e : Refusal) × IsRefused ts e)
right_or_refused ts = elim (least_or_none (broken ts)) [ inl none ↦ inl none | inr found ↦ inr (BadType found.0, found.1) ]

all_here : (a : ℕ) (places : List ℕ) (k d : ℕ) → k < length places → AllByRecursion (λ p. a ≤ p) places → a ≤ get_or places k d
all_here a [] k d within h = absurd (omega arith)
all_here a (p ∷ places) zero d within h = h.0
all_here a (p ∷ places) (suc k) d within h = all_here a places k d (omega arith) h.1

no_more : (a b : ℕ) (places : List ℕ) → IsLeast a places → IsLeast b places → a ≤ b
no_more a b places least other =
    let h = all_here a places other.there.0 b other.there.1 least.least in
    let e = other.there.2 in
    omega (arith, h, e)

one_least : (a b : ℕ) (places : List ℕ) → IsLeast a places → IsLeast b places → a ≡ b
one_least a b places first second =
    let h : a ≤ b = no_more a b places first second in
    let k : b ≤ a = no_more b a places second first in
    omega arith

nowhere : (at : ℕ) → IsLeast at [] → ⊥
nowhere at h = let k = h.there.1 in absurd (omega (arith, k))

pub one_refusal : (ts : List ProgTransform) (e f : Refusal) → IsRefused ts e → IsRefused ts f → e ≡ f
one_refusal ts (BadType a) (BadType b) first second = ap (λ at. BadType at) (one_least a b (broken ts) first second)
one_refusal ts (BadType a) other first second = absurd second
one_refusal ts other f first second = absurd first

pub not_both : (ts : List ProgTransform) (e : Refusal) → broken ts ≡ [] → IsRefused ts e → ⊥
not_both ts (BadType at) none h = nowhere at (subst (IsLeast at) none h)
not_both ts other none h = h
