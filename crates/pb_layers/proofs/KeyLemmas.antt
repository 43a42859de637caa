-- The keys of components in order.
use Rattle.std.proofs.Common.{◌≡◌, ◌⊎◌, ◌∙◌, refl, sym, ap, subst, inl, inr, ⊎_elim, ℕ, zero, suc, ◌+◌, ◌<◌, ◌≤◌, Bool, true, false, cond, eqb, ltb, List, length, get_or, slice_index, arith}
use Rattle.std.specs.List.{IsDistinct}
use Rattle.std.specs.List.Sorted.{IsPermutation, IsSortedBy}
use Rattle.std.specs.Ordering.{is_lt, nat_cmp, ordering_then}
use Rattle.std.specs.declared.cmp.Ordering.TheVariants.{Less, Equal, Greater}
use Rattle.std.proofs.lemmas.Bool.{cases_eq, cases_order, eq-eqb, eqb-true, eqb-false, ltb-false, ne_eqb, false≢true}
use Rattle.std.proofs.lemmas.List.{get_or_default}
use Rattle.std.proofs.lemmas.List.Elements.{Contains-get_or}
use Rattle.std.proofs.lemmas.List.Sorted.{Contains-permutation, IsPermutation-sym, length_permutation}
use Rattle.std.proofs.lemmas.Map.Keys.{IsDistinct-IsPermutation, IsDistinct-from_apart, apart_from_distinct}
use Rattle.pb_layers.specs.declared.keys.Key.{Key}
use Rattle.pb_layers.specs.Numbers.{AreKeys, IsBefore, IsRising, key_at}

abbrev no_key : Key
no_key = record { depth = 0; root = 0 }

-- a list's elements stand somewhere in another order of it
moved : (xs ys : List Key) → IsPermutation xs ys → (place : ℕ) → place < length xs → (other : ℕ) × (other < length ys) × (key_at ys other ≡ key_at xs place)
moved xs ys p place below =
    let c = Contains-permutation xs ys (key_at xs place) p (Contains-get_or xs place no_key below) in
    (c.0, c.1, get_or_default ys c.0 no_key (key_at xs place) c.1 ∙ c.2)

same_root-flips : (a b : Key) → eqb a.root b.root ≡ eqb b.root a.root
same_root-flips a b = ⊎_elim
    (λ (e : a.root ≡ b.root). eq-eqb a.root b.root e ∙ sym (eq-eqb b.root a.root (sym e)))
    (λ (ne : a.root ≡ b.root → ⊥). ne_eqb a.root b.root ne ∙ sym (ne_eqb b.root a.root (λ e. ne (sym e))))
    (cases_eq a.root b.root)

distinct-from : (keys : List Key) → ((i j : ℕ) → i < length keys → j < length keys → (key_at keys i).root ≡ (key_at keys j).root → i ≡ j) → IsDistinct (λ a b. eqb a.root b.root) keys
distinct-from keys apart = IsDistinct-from_apart (λ (a b : Key). eqb a.root b.root) keys (λ i j d before below.
    let here : i < length keys = omega arith in
    ne_eqb (get_or keys i d).root (get_or keys j d).root (λ e. let same = apart i j here below (ap (λ (k : Key). k.root) (get_or_default keys i no_key d here) ∙ e ∙ ap (λ (k : Key). k.root) (get_or_default keys j d no_key below)) in absurd (omega arith)))

from-distinct : (keys : List Key) → IsDistinct (λ a b. eqb a.root b.root) keys → (i j : ℕ) → i < length keys → j < length keys → (key_at keys i).root ≡ (key_at keys j).root → i ≡ j
from-distinct keys d i j here there e = ⊎_elim
    (λ same. same)
    (λ h. ⊎_elim
    (λ (l : i < j). absurd (eqb-false _ _ (apart_from_distinct (λ (a b : Key). eqb a.root b.root) keys i j no_key d l there) e))
    (λ (l : j < i). absurd (eqb-false _ _ (apart_from_distinct (λ (a b : Key). eqb a.root b.root) keys j i no_key d l here) (sym e)))
    h)
    (cases_order i j)

pub keys-moved : (least depth : List ℕ) (bound : ℕ) (xs ys : List Key) → IsPermutation xs ys → AreKeys least depth bound xs → AreKeys least depth bound ys
keys-moved least depth bound xs ys p k = record {
  short = omega (arith, length_permutation xs ys p, k.short);
  each = λ place below.
      let from = moved ys xs (IsPermutation-sym xs ys p) place below in
      let P : Key → Type 0 = λ y. (y.root < bound) × (slice_index least y.root ≡ y.root) × (slice_index depth y.root ≡ y.depth) in
      subst P from.2 (k.each from.0 from.1);
  all = λ root below is.
      let at = k.all root below is in
      let to = moved xs ys p at.0 at.1 in
      (to.0, to.1, ap (λ (y : Key). y.root) to.2 ∙ at.2);
  apart = from-distinct ys (IsDistinct-IsPermutation (λ a b. eqb a.root b.root) same_root-flips xs ys p (distinct-from xs k.apart));
}

-- ---- sorted keys rise

at_most : (d e r s : ℕ) → is_lt (ordering_then (nat_cmp e d) (nat_cmp s r)) ≡ false → (d < e) ⊎ ((d ≡ e) × (r ≤ s))
at_most d e r s h = go (ltb e d) (eqb e d) (ltb s r) (eqb s r) refl refl refl h
  where
    go : (a b x y : Bool) → a ≡ ltb e d → b ≡ eqb e d → x ≡ ltb s r → is_lt (ordering_then (cond a Less (cond b Equal Greater)) (cond x Less (cond y Equal Greater))) ≡ false → (d < e) ⊎ ((d ≡ e) × (r ≤ s))
    go true b x y p q t h = absurd (false≢true (sym h))
    go false true true y p q t h = absurd (false≢true (sym h))
    go false true false y p q t h = let same = eqb-true e d (sym q) in inr (sym same, ltb-false s r (sym t))
    go false false x y p q t h = let over = ltb-false e d (sym p) in let ne = eqb-false e d (sym q) in inl (omega arith)

pub keys-rise : (keys : List Key) → IsSortedBy (λ a b. is_lt (ordering_then (nat_cmp a.depth b.depth) (nat_cmp a.root b.root))) keys → ((i j : ℕ) → i < length keys → j < length keys → (key_at keys i).root ≡ (key_at keys j).root → i ≡ j) → IsRising keys
keys-rise keys sorted apart i j before below =
    strict (upto i j before below)
  where
    next : (k : ℕ) → k + 1 < length keys → ((key_at keys k).depth < (key_at keys (k + 1)).depth) ⊎ (((key_at keys k).depth ≡ (key_at keys (k + 1)).depth) × ((key_at keys k).root ≤ (key_at keys (k + 1)).root))
    next k l = at_most (key_at keys k).depth (key_at keys (k + 1)).depth (key_at keys k).root (key_at keys (k + 1)).root (sorted k no_key (omega arith) l)

    both : (i j : ℕ) → (((key_at keys i).depth < (key_at keys j).depth) ⊎ (((key_at keys i).depth ≡ (key_at keys j).depth) × ((key_at keys i).root ≤ (key_at keys j).root))) →
        (((key_at keys j).depth < (key_at keys (j + 1)).depth) ⊎ (((key_at keys j).depth ≡ (key_at keys (j + 1)).depth) × ((key_at keys j).root ≤ (key_at keys (j + 1)).root))) →
        ((key_at keys i).depth < (key_at keys (j + 1)).depth) ⊎ (((key_at keys i).depth ≡ (key_at keys (j + 1)).depth) × ((key_at keys i).root ≤ (key_at keys (j + 1)).root))
    both i j h k = ⊎_elim
        (λ a. inl (⊎_elim (λ b. omega arith) (λ b. omega (arith, b.0)) k))
        (λ a. ⊎_elim (λ b. inl (omega (arith, a.0))) (λ b. inr (a.0 ∙ b.0, omega (arith, a.1, b.1))) k)
        h

    along : (i j : ℕ) → i ≤ j → j < length keys → ((key_at keys i).depth < (key_at keys j).depth) ⊎ (((key_at keys i).depth ≡ (key_at keys j).depth) × ((key_at keys i).root ≤ (key_at keys j).root))
    along i zero l below = let e : i ≡ 0 = omega arith in inr (ap (λ k. (key_at keys k).depth) e, omega (arith, ap (λ k. (key_at keys k).root) e))
    along i (suc j) l below = ⊎_elim
        (λ (e : i ≡ suc j). inr (ap (λ k. (key_at keys k).depth) e, omega (arith, ap (λ k. (key_at keys k).root) e)))
        (λ (ne : i ≡ suc j → ⊥).
        let one : suc j ≡ j + 1 = omega arith in
        let P : ℕ → Type 0 = λ k. ((key_at keys i).depth < (key_at keys k).depth) ⊎ (((key_at keys i).depth ≡ (key_at keys k).depth) × ((key_at keys i).root ≤ (key_at keys k).root)) in
        subst P (sym one) (both i j (along i j (omega arith) (omega arith)) (next j (omega arith))))
        (cases_eq i (suc j))

    upto : (i j : ℕ) → i < j → j < length keys → ((key_at keys i).depth < (key_at keys j).depth) ⊎ (((key_at keys i).depth ≡ (key_at keys j).depth) × ((key_at keys i).root ≤ (key_at keys j).root))
    upto i j l below = along i j (omega arith) below

    strict : (((key_at keys i).depth < (key_at keys j).depth) ⊎ (((key_at keys i).depth ≡ (key_at keys j).depth) × ((key_at keys i).root ≤ (key_at keys j).root))) → IsBefore (key_at keys i) (key_at keys j)
    strict h = ⊎_elim (λ d. inl d) (λ d. inr (d.0, ne d.1)) h
      where
        ne : (key_at keys i).root ≤ (key_at keys j).root → (key_at keys i).root < (key_at keys j).root
        ne l = ⊎_elim (λ (e : (key_at keys i).root ≡ (key_at keys j).root). let same = apart i j (omega arith) below e in absurd (omega arith)) (λ (n : (key_at keys i).root ≡ (key_at keys j).root → ⊥). omega arith) (cases_eq (key_at keys i).root (key_at keys j).root)
