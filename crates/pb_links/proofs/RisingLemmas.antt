-- Rising lists, and tests of some element.
use Rattle.std.proofs.Common.{◌≡◌, ◌∙◌, refl, ap, inl, inr, ⊎_elim, ◌↔◌, ℕ, suc, ◌+◌, ◌<◌, ◌≤◌, Bool, true, List, [], ◌∷◌, length, slice_index, get_or, zero-add, arith}
use Rattle.std.specs.List.{AllPairs, Contains, filter, list_any, range_with_len}
use Rattle.std.specs.List.Sorted.{IsStrictlyIncreasing}
use Rattle.std.proofs.lemmas.Bool.{cases_order, or_cases, or_left, or_right}
use Rattle.std.proofs.lemmas.List.FromFn.{get_or-range_with_len, length-range_with_len}
use Rattle.std.proofs.lemmas.List.Kept.{AllPairs-from_increasing, IsStrictlyIncreasing-filter}
use Rattle.pb_base.proofs.ListLemmas.{in_cases, in_head, in_none, in_tail}
use Rattle.pb_links.specs.Links.{EachOnce}

abbrev Rises : List ℕ → Type 0
Rises xs = AllPairs (λ x y. x < y) xs

rises-tail : (x : ℕ) (xs : List ℕ) → Rises (x ∷ xs) → Rises xs
rises-tail x xs r i j d before below = r (suc i) (suc j) d (omega arith) (omega arith)

rises-above : (x v : ℕ) (xs : List ℕ) → Rises (x ∷ xs) → Contains xs v → x < v
rises-above x v xs r c = let up : x < get_or xs c.0 v = r 0 (suc c.0) v (omega arith) (omega (arith, c.1)) in omega (arith, c.2)

rises-first : (x v : ℕ) (xs : List ℕ) → Rises (x ∷ xs) → Contains (x ∷ xs) v → x ≤ v
rises-first x v xs r c = ⊎_elim (λ e. omega arith) (λ k. let up = rises-above x v xs r k in omega arith) (in_cases x v xs c)

rises-same : (xs ys : List ℕ) → Rises xs → Rises ys → ((v : ℕ) → Contains xs v ↔ Contains ys v) → xs ≡ ys
rises-same [] [] p q same = refl
rises-same [] (y ∷ ys) p q same = absurd (in_none y ((same y).1 (in_head y ys)))
rises-same (x ∷ xs) [] p q same = absurd (in_none x ((same x).0 (in_head x xs)))
rises-same (x ∷ xs) (y ∷ ys) p q same =
    let low = rises-first x y xs p ((same y).1 (in_head y ys)) in
    let high = rises-first y x ys q ((same x).0 (in_head x xs)) in
    let head : x ≡ y = omega arith in
    let tail = rises-same xs ys (rises-tail x xs p) (rises-tail y ys q) (λ v. (
      λ c. let up = rises-above x v xs p c in ⊎_elim (λ e. absurd (omega arith)) (λ k. k) (in_cases y v ys ((same v).0 (in_tail x v xs c))),
      λ c. let up = rises-above y v ys q c in ⊎_elim (λ e. absurd (omega arith)) (λ k. k) (in_cases x v xs ((same v).1 (in_tail y v ys c))),
    )) in
    ap (λ w. w ∷ xs) head ∙ ap (λ l. y ∷ l) tail

-- two rising lists with the same numbers are one
pub rising-same : (xs ys : List ℕ) → IsStrictlyIncreasing xs → IsStrictlyIncreasing ys → ((v : ℕ) → Contains xs v ↔ Contains ys v) → xs ≡ ys
rising-same xs ys p q same = rises-same xs ys (AllPairs-from_increasing xs p) (AllPairs-from_increasing ys q) same

-- no number stands twice in one
pub rising-once : (xs : List ℕ) → IsStrictlyIncreasing xs → EachOnce xs
rising-once xs r i j inside within same =
    let up = AllPairs-from_increasing xs r in
    ⊎_elim (λ e. e) (λ o. ⊎_elim (λ b. let h = up i j 0 b within in absurd (omega arith)) (λ b. let h = up j i 0 b inside in absurd (omega arith)) o) (cases_order i j)

at-range : (n k : ℕ) → k < length (range_with_len 0 n) → slice_index (range_with_len 0 n) k ≡ k
at-range n k below = get_or-range_with_len 0 n k 0 (omega (arith, length-range_with_len 0 n)) ∙ zero-add k

-- what is picked from the numbers below another rises
pub rising-picked : (p : ℕ → Bool) (n : ℕ) → IsStrictlyIncreasing (filter p (range_with_len 0 n))
rising-picked p n = IsStrictlyIncreasing-filter p (range_with_len 0 n) (λ k below. omega (arith, at-range n k (omega arith), at-range n (k + 1) below))

-- ---- a test of some element
module _ {A : Type 0} (p : A → Bool) where
  pub any-in : (xs : List A) → list_any p xs ≡ true → (x : A) × Contains xs x × (p x ≡ true)
  any-in [] h = absurd (cc)
  any-in (x ∷ xs) h = elim (or_cases (p x) (list_any p xs) h) [
    | inl here ↦ (x, in_head x xs, here)
    | inr later ↦ let r = any-in xs later in (r.0, in_tail x r.0 xs r.1, r.2)
  ]

  pub in-any : (xs : List A) (x : A) → Contains xs x → p x ≡ true → list_any p xs ≡ true
  in-any [] x c h = absurd (in_none x c)
  in-any (y ∷ xs) x c h = elim (in_cases y x xs c) [
    | inl same ↦ or_left (p y) (list_any p xs) (ap p same ∙ h)
    | inr later ↦ or_right (p y) (list_any p xs) (in-any xs x later h)
  ]
