-- Steps have few links where most of them read inputs alone.
use Rattle.std.proofs.Common.{◌≡◌, ◌∙◌, refl, sym, ap, subst, ℕ, zero, suc, ◌+◌, ◌*◌, ◌≤◌, Bool, true, false, ◌&&◌, not, List, [], ◌∷◌, length, map, filter, slice_get, Some, arith}
use Rattle.std.specs.Prelude.{◌==◌}
use Rattle.std.specs.List.{AllByRecursion, list_any, range_with_len, sum_by}
use Rattle.std.proofs.Math.Nat.{mul-le-mul}
use Rattle.std.proofs.lemmas.Bool.Decides.{nat_tests}
use Rattle.std.proofs.lemmas.List.{length-map}
use Rattle.std.proofs.lemmas.List.Sums.{sum_by-cons}
use Rattle.std.proofs.lemmas.List.FromFn.{length-range_with_len}
use Rattle.std.proofs.lemmas.Option.{none-some, same_Some}
use Rattle.pb_links.specs.Links.{link_count, precedes, predecessors}
use Rattle.pb_links.specs.Spots.{boxes_of as boxes_at, overlaps, parts_of as parts_at}
use Rattle.pb_links.specs.declared.places.Spot.{Spot}
use Rattle.pb_runs.specs.Steps.{Step, boxes_of, by_copy, by_job, by_trap, parts_of, places_of}
use Rattle.pb_demo_answers.proofs.Lists.{kept_fewer, none_kept}
use Rattle.pb_demo_answers.proofs.Steps.{AreFew, AreHigh, AreLow, OfInputs, is_linked}

-- ---- a step that reads inputs alone waits for none
high_at : (ss : List Step) (u : ℕ) → AllByRecursion (λ s. AreHigh (parts_of s)) ss → AreHigh (parts_at (map places_of ss) u)
unfolding parts_at
high_at [] u h = tt
high_at (s ∷ ss) zero h = h.0
high_at (s ∷ ss) (suc u) h = high_at ss u h.1

low_at : (ss : List Step) (t : ℕ) (s : Step) → slice_get ss t ≡ Some s → is_linked s ≡ false → AllByRecursion OfInputs ss → AreLow (boxes_at (map places_of ss) t)
unfolding boxes_at
low_at [] t s at own h = absurd (none-some s at)
low_at (x ∷ ss) zero s at own h = by x (ap is_linked (same_Some _ _ at) ∙ own) h.0
  where
    by : (x : Step) → is_linked x ≡ false → OfInputs x → AreLow (boxes_of x)
    by (by_job i job) own low = low
    by (by_copy i c) own low = absurd (let both : true ≡ false = own in cc)
    by (by_trap f) own low = absurd (let both : true ≡ false = own in cc)
low_at (x ∷ ss) (suc t) s at own h = low_at ss t s at own h.1

none_over : (part : Spot) (boxes : List Spot) → 2 ≤ part.base → AreLow boxes → list_any (overlaps part) boxes ≡ false
unfolding overlaps
none_over part [] high low = refl
none_over part (b ∷ boxes) high low =
    let apart : (part.base == b.base) ≡ false = grind (arith, nat_tests, high, low.0) in
    rw apart (none_over part boxes high low.1)

none_between : (parts boxes : List Spot) → AreHigh parts → AreLow boxes → list_any (λ part. list_any (overlaps part) boxes) parts ≡ false
none_between [] boxes high low = refl
none_between (p ∷ parts) boxes high low = rw (none_over p boxes high.0 low) (none_between parts boxes high.1 low)

and_false : (a b : Bool) → b ≡ false → (a && b) ≡ false
and_false true b e = e
and_false false b e = refl

module _ (ss : List Step) (own linked : ℕ) (few : AreFew own linked ss) where
  waits_for_none : (t : ℕ) (s : Step) → slice_get ss t ≡ Some s → is_linked s ≡ false → predecessors (map places_of ss) t ≡ []
  unfolding predecessors precedes
  waits_for_none t s at alone =
      none_kept (λ u. precedes (map places_of ss) u t) (range_with_len 0 (length (map places_of ss))) (λ u. and_false (not (u == t)) _ (none_between (parts_at (map places_of ss) u) (boxes_at (map places_of ss) t) (high_at ss u few.made) (low_at ss t s at alone few.read)))

  few_before : (t : ℕ) → length (predecessors (map places_of ss) t) ≤ length ss
  unfolding predecessors
  few_before t = omega (arith, kept_fewer (λ u. precedes (map places_of ss) u t) (range_with_len 0 (length (map places_of ss))), length-range_with_len 0 (length (map places_of ss)), length-map ss places_of)

-- ---- the sum
sum_most : (f : ℕ → List ℕ) (most : ℕ) (ss : List Step) (k : ℕ) → ((i : ℕ) (s : Step) → slice_get ss i ≡ Some s → (length (f (k + i)) ≤ most) × (is_linked s ≡ false → f (k + i) ≡ []))
    → sum_by length (map f (range_with_len k (length ss))) ≤ length (filter is_linked ss) * most
sum_most f most [] k each = omega arith
sum_most f most (s ∷ ss) k each =
    by (is_linked s) refl (sum_most f most ss (k + 1) (λ i x at. subst (λ (j : ℕ). (length (f j) ≤ most) × (is_linked x ≡ false → f j ≡ [])) (omega arith) (each (suc i) x at)))
  where
    here : (length (f k) ≤ most) × (is_linked s ≡ false → f k ≡ [])
    here = subst (λ (j : ℕ). (length (f j) ≤ most) × (is_linked s ≡ false → f j ≡ [])) (omega arith) (each 0 s refl)

    next : sum_by length (map f (range_with_len k (length (s ∷ ss)))) ≡ length (f k) + sum_by length (map f (range_with_len (k + 1) (length ss)))
    next = sum_by-cons length (f k) (map f (range_with_len (k + 1) (length ss)))

    by : (b : Bool) → is_linked s ≡ b → sum_by length (map f (range_with_len (k + 1) (length ss))) ≤ length (filter is_linked ss) * most
        → sum_by length (map f (range_with_len k (length (s ∷ ss)))) ≤ length (filter is_linked (s ∷ ss)) * most
    by true e rest = let more : length (filter is_linked (s ∷ ss)) * most ≡ most + length (filter is_linked ss) * most = rw e (omega arith) in omega (arith, here.0, rest, next, more)
    by false e rest = let same : length (filter is_linked (s ∷ ss)) * most ≡ length (filter is_linked ss) * most = rw e refl in omega (arith, ap length (here.1 e), rest, next, same)

pub links_most : (ss : List Step) (own linked : ℕ) → AreFew own linked ss → link_count (map places_of ss) ≤ linked * (own + linked)
links_most ss own linked few =
    let tasks = length-map ss places_of in
    let sum = sum_most (predecessors (map places_of ss)) (length ss) ss 0 (λ i s at. subst (λ (j : ℕ). (length (predecessors (map places_of ss) j) ≤ length ss) × (is_linked s ≡ false → predecessors (map places_of ss) j ≡ [])) (omega arith) (few_before ss own linked few i, waits_for_none ss own linked few i s at)) in
    let most : length (filter is_linked ss) * length ss ≤ linked * (own + linked) = mul-le-mul few.others few.all in
    subst (λ (k : ℕ). sum_by length (map (predecessors (map places_of ss)) (range_with_len 0 k)) ≤ linked * (own + linked)) (sym tasks) (omega (arith, sum, most))
