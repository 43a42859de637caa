-- The first item of a list that fails.
use Rattle.std.proofs.Common.{◌≡◌, ◌⊎◌, inl, inr, ℕ, zero, suc, ◌+◌, ◌<◌, ◌≤◌, List, [], ◌∷◌, length, take, slice_get, Some, refl, sym, ap, subst, ◌∙◌, arith}
use Rattle.std.specs.List.{All}
use Rattle.std.proofs.lemmas.Bool.{cases_lt}
use Rattle.std.proofs.lemmas.List.{take_all, get_or-take, length-take-le}
use Rattle.std.proofs.lemmas.List.Elements.{All-more}
use Rattle.std.proofs.lemmas.Option.{get_or_from_slice_get, slice_get_within}
use Rattle.pb_check.specs.Firsts.{IsFirst}

pub some_at : {A : Type 0} (xs : List A) (k : ℕ) → k < length xs → (x : A) × (slice_get xs k ≡ Some x)
some_at [] k below = absurd (omega arith)
some_at (x ∷ xs) zero below = (x, refl)
some_at (x ∷ xs) (suc k) below = some_at xs k (omega arith)

pub some_same : {A : Type 0} (x y : A) → Some x ≡ Some y → x ≡ y
some_same x y e = cc

module _ {A : Type 0} (Holds : A → Type 0) where
  pub more : (xs : List A) (k : ℕ) (x : A) → All Holds (take k xs) → slice_get xs k ≡ Some x → Holds x → All Holds (take (k + 1) xs)
  more xs k x before at h = All-more Holds xs k x (slice_get_within xs k x at) before (subst Holds (sym (get_or_from_slice_get xs k x x at)) h)

  pub all_end : (xs : List A) (k : ℕ) → All Holds (take k xs) → length xs ≤ k → All Holds xs
  all_end xs k before end = subst (All Holds) (take_all k xs end) before

  pub all_at : (xs : List A) (k : ℕ) (x : A) → All Holds xs → slice_get xs k ≡ Some x → Holds x
  all_at xs k x h at = subst Holds (get_or_from_slice_get xs k x x at) (h k x (slice_get_within xs k x at))

  all_before : (xs : List A) (n k : ℕ) (x : A) → All Holds (take n xs) → k < n → n ≤ length xs → slice_get xs k ≡ Some x → Holds x
  all_before xs n k x h below fits at = subst Holds (get_or-take n xs k x below ∙ get_or_from_slice_get xs k x x at) (h k x (omega (arith, length-take-le n xs fits)))

  none_at : All Holds []
  none_at k d below = absurd (omega arith)

  with_head : (x : A) (xs : List A) → Holds x → All Holds xs → All Holds (x ∷ xs)
  with_head x xs h all zero d below = h
  with_head x xs h all (suc k) d below = all k d (omega arith)

  -- nothing fails where all hold
  pub none_first : (Fails : ℕ → A → Type 0) → ((k : ℕ) (x : A) → Holds x → Fails k x → ⊥) → (xs : List A) → All Holds xs → IsFirst Holds Fails xs → ⊥
  none_first Fails apart xs all f = apart f.place f.item (all_at xs f.place f.item all f.there) f.fails

  -- two firsts are one
  not_before : (Fails Others : ℕ → A → Type 0) → ((k : ℕ) (x : A) → Holds x → Fails k x → ⊥) → (xs : List A) (f : IsFirst Holds Fails xs) (g : IsFirst Holds Others xs) → f.place < g.place → ⊥
  not_before Fails Others apart xs f g before =
      let within = slice_get_within xs g.place g.item g.there in
      apart f.place f.item (all_before xs g.place f.place f.item g.earlier before (omega (arith, within)) f.there) f.fails

  pub same_place : (Fails Others : ℕ → A → Type 0) → ((k : ℕ) (x : A) → Holds x → Fails k x → ⊥) → ((k : ℕ) (x : A) → Holds x → Others k x → ⊥) → (xs : List A)
      (f : IsFirst Holds Fails xs) (g : IsFirst Holds Others xs) → f.place ≡ g.place
  same_place Fails Others apart away xs f g = elim (cases_lt f.place g.place) [
    | inl before ↦ absurd (not_before Fails Others apart xs f g before)
    | inr after ↦ elim (cases_lt g.place f.place) [ inl before ↦ absurd (not_before Others Fails away xs g f before) | inr same ↦ omega arith ]
  ]

  pub same_item : (Fails Others : ℕ → A → Type 0) (xs : List A) (f : IsFirst Holds Fails xs) (g : IsFirst Holds Others xs) → f.place ≡ g.place → f.item ≡ g.item
  same_item Fails Others xs f g e = some_same f.item g.item (sym f.there ∙ ap (slice_get xs) e ∙ g.there)

  -- all hold, or there is a first that fails
  after_head : (Fails : ℕ → A → Type 0) (x : A) (xs : List A) → Holds x → All Holds xs ⊎ IsFirst Holds (λ k. Fails (suc k)) xs → All Holds (x ∷ xs) ⊎ IsFirst Holds Fails (x ∷ xs)
  after_head Fails x xs h (inl all) = inl (with_head x xs h all)
  after_head Fails x xs h (inr f) = inr (record { place = suc f.place; item = f.item; there = f.there; fails = f.fails; earlier = with_head x (take f.place xs) h f.earlier })

  pub some_first : (Fails : ℕ → A → Type 0) (xs : List A) → ((k : ℕ) (x : A) → slice_get xs k ≡ Some x → Holds x ⊎ Fails k x) → All Holds xs ⊎ IsFirst Holds Fails xs
  some_first Fails [] each = inl none_at
  some_first Fails (x ∷ xs) each = elim (each 0 x refl) [
    | inl h ↦ after_head Fails x xs h (some_first (λ k. Fails (suc k)) xs (λ k y at. each (suc k) y at))
    | inr fails ↦ inr (record { place = 0; item = x; there = refl; fails = fails; earlier = none_at })
  ]
