-- The places of pieces, as a list.
use Rattle.std.proofs.Common.{◌≡◌, refl, sym, ap, subst, inl, inr, ℕ, zero, suc, ◌+◌, ◌-◌, ◌<◌, ◌≤◌, ◌⊎◌, ◌==◌, Bool, true, false, eqb-true, List, [], ◌∷◌, slice_get, Option, Some, None, arith}
use Rattle.std.specs.Prelude.{IsSomeAnd}
use Rattle.std.proofs.lemmas.Bool.{eqb-false}
use Rattle.std.specs.List.{Contains, enumerate_from, range_with_len}
use Rattle.pb_base.proofs.ListLemmas.{flat_in, in_cases, in_flat, in_head, in_map, in_none, in_tail, map_in}
use Rattle.pb_links.specs.declared.places.Spot.{Spot}
use Rattle.pb_walk.specs.declared.stop.Stop.{Stop}
use Rattle.pb_walk.specs.Walks.{IsIn, IsPlace, places, places_of, row_of, stop}

first_or_later : (low k : ℕ) → low ≤ k → (low ≡ k) ⊎ (low + 1 ≤ k)
first_or_later low k l = by (low == k) refl
  where
    by : (t : Bool) → (low == k) ≡ t → (low ≡ k) ⊎ (low + 1 ≤ k)
    by true e = inl (eqb-true low k e)
    by false e = let differ = eqb-false low k e in inr (omega arith)

span_in : (low n k : ℕ) → Contains (range_with_len low n) k → (low ≤ k) × (k < low + n)
span_in low zero k h = absurd (in_none k h)
span_in low (suc n) k h = elim (in_cases low k (range_with_len (low + 1) n) h) [
  | inl same ↦ (omega arith, omega arith)
  | inr later ↦ let rest = span_in (low + 1) n k later in (omega arith, omega arith)
]

in_span : (low n k : ℕ) → low ≤ k → k < low + n → Contains (range_with_len low n) k
in_span low zero k l h = absurd (omega arith)
in_span low (suc n) k l h = elim (first_or_later low k l) [
  | inl first ↦ subst (λ (i : ℕ). Contains (range_with_len low (suc n)) i) first (in_head low (range_with_len (low + 1) n))
  | inr later ↦ in_tail low k (range_with_len (low + 1) n) (in_span (low + 1) n k later (omega arith))
]

enumerated : (n : ℕ) (xs : List Spot) (e : ℕ × Spot) → Contains (enumerate_from n xs) e → (k : ℕ) × (e.0 ≡ n + k) × (slice_get xs k ≡ Some e.1)
enumerated n [] e h = absurd (in_none e h)
enumerated n (x ∷ xs) e h = elim (in_cases (n, x) e (enumerate_from (n + 1) xs) h) [
  | inl same ↦ (0, omega (arith, ap (λ (p : ℕ × Spot). p.0) same), ap (λ (p : ℕ × Spot). Some p.1) same)
  | inr later ↦ let rest = enumerated (n + 1) xs e later in (suc rest.0, omega (arith, rest.1), rest.2)
]

in_enumerated : (n k : ℕ) (xs : List Spot) (r : Spot) → slice_get xs k ≡ Some r → Contains (enumerate_from n xs) (n + k, r)
in_enumerated n k [] r e = let none : None ≡ Some r = e in absurd (cc)
in_enumerated n zero (x ∷ xs) r e =
    let some : Some x ≡ Some r = e in
    let same : x ≡ r = cc in
    let there : n ≡ n + 0 = omega arith in
    let both : (n, x) ≡ (n + 0, r) = λ i. (there i, same i) in
    subst (Contains (enumerate_from n (x ∷ xs))) both (in_head (n, x) (enumerate_from (n + 1) xs))
in_enumerated n (suc k) (x ∷ xs) r e =
    let there : (n + 1) + k ≡ n + suc k = omega arith in
    in_tail (n, x) (n + suc k, r) (enumerate_from (n + 1) xs) (subst (λ (i : ℕ). Contains (enumerate_from (n + 1) xs) (i, r)) there (in_enumerated (n + 1) k xs r e))

pub place_in : (pieces : List Spot) (s : Stop) → Contains (places pieces) s → IsPlace pieces s
place_in pieces s h =
    let piece = flat_in places_of (enumerate_from 0 pieces) s h in
    let p = piece.0.1 in
    let r = p.rect in
    let row = flat_in (row_of piece.0.0 p) (range_with_len r.y0 (r.y1 - r.y0)) s piece.2 in
    let column = map_in (λ (x : ℕ). stop piece.0.0 p.base x row.0) (range_with_len r.x0 (r.x1 - r.x0)) s row.2 in
    let number = enumerated 0 pieces piece.0 piece.1 in
    let ys = span_in r.y0 (r.y1 - r.y0) row.0 row.1 in
    let xs = span_in r.x0 (r.x1 - r.x0) column.0 column.1 in
    let same : piece.0.0 ≡ number.0 = omega (arith, number.1) in
    let there : slice_get pieces piece.0.0 ≡ Some p = rw same number.2 in
    let inside : IsPlace pieces (stop piece.0.0 p.base column.0 row.0) = rw there (refl, record { left = xs.0; right = omega arith; low = ys.0; high = omega arith }) in
    subst (IsPlace pieces) column.2 inside

there_from : (o : Option Spot) (P : Spot → Type 0) → IsSomeAnd o P → (r : Spot) × (o ≡ Some r) × P r
there_from None P h = absurd h
there_from (Some r) P h = (r, refl, h)

of_base : (piece base x y : ℕ) (b : ℕ) → b ≡ base → stop piece base x y ≡ stop piece b x y
of_base piece base x y b e = λ i. stop piece (sym e i) x y

pub in_place : (pieces : List Spot) (s : Stop) → IsPlace pieces s → Contains (places pieces) s
in_place pieces s h =
    let piece = there_from (slice_get pieces s.piece) (λ (r : Spot). IsIn r s) h in
    let p = piece.0 in
    let r = p.rect in
    let at = piece.2.1 in
    let mapped = in_map (λ (x : ℕ). stop s.piece p.base x s.y) (range_with_len r.x0 (r.x1 - r.x0)) s.x (in_span r.x0 (r.x1 - r.x0) s.x at.left (omega (arith, at.right))) in
    let column = subst (Contains (row_of s.piece p s.y)) (of_base s.piece p.base s.x s.y s.base piece.2.0) mapped in
    let row = in_flat (row_of s.piece p) (range_with_len r.y0 (r.y1 - r.y0)) s.y s (in_span r.y0 (r.y1 - r.y0) s.y at.low (omega (arith, at.high))) column in
    let same : 0 + s.piece ≡ s.piece = omega arith in
    let there : Contains (enumerate_from 0 pieces) (s.piece, p) = subst (λ (k : ℕ). Contains (enumerate_from 0 pieces) (k, p)) same (in_enumerated 0 s.piece pieces p piece.1) in
    in_flat places_of (enumerate_from 0 pieces) (s.piece, p) s there row
