-- Conditions without a rule variable: guards, and all conditions of a rule whose outputs have none.
use Rattle.std.proofs.Common.{◌≡◌, ap, sym, refl, ◌↔◌, ℕ, List, [], ◌∷◌, map, Bool, true, false, not, ◌||◌, ℤ, pos, ◌*ℤ◌, ◌≤ℤ◌, arith}
use Rattle.std.specs.Prelude.{filter}
use Rattle.std.specs.List.{AllByRecursion, list_any}
use Rattle.std.proofs.Math.IntN.{zero-*ℤ}
use Rattle.std.proofs.lemmas.Int.{ints}
use Rattle.std.proofs.lemmas.Bool.{and_parts}
use Rattle.pb_linear.specs.Numbers.{exact_value}
use Rattle.pb_linear.specs.Sizes.{InRange}
use Rattle.pb_linear.proofs.SizesLemmas.{le_everywhere-at, le_everywhere-from}
use Rattle.pb_program.specs.Conditions.{Condition, Holds}
use Rattle.pb_program.specs.Forms.{CoordinateValue, coordinate_at}
use Rattle.pb_region.specs.Boxes.{is_free, is_guard, is_zero}
use Rattle.pb_region.specs.Gaps.{gap}
use Rattle.pb_region.specs.Inside.{is_guarding}
use Rattle.pb_region.proofs.InsideLemmas.{all_filter, gap_holds, zero_is}

-- without a rule variable the value is that of the form over the sizes
free_value : (g : CoordinateValue) → is_free g ≡ true → (sizes : List ℕ) (x y : ℤ) → coordinate_at g sizes x y ≡ exact_value g.rest sizes
free_value g h sizes x y =
    let parts = and_parts (is_zero g.x) (is_zero g.y) h in
    omega (arith, ints, ap (λ k. k *ℤ x) (zero_is g.x parts.0), ap (λ k. k *ℤ y) (zero_is g.y parts.1), zero-*ℤ x, zero-*ℤ y)

everywhere_of : (b : Bool) → not b ≡ false → b ≡ true
everywhere_of true e = refl
everywhere_of false e = sym e

not_of : (b : Bool) → b ≡ true → not b ≡ false
not_of b e = rw e refl

or_false : (a b : Bool) → ((a || b) ≡ false) ↔ ((a ≡ false) × (b ≡ false))
or_false true b = (λ h. absurd (cc), λ h. h.0)
or_false false b = (λ h. (refl, h), λ h. h.1)

module _ (leasts : List ℕ) where
  -- a condition without a rule variable is true at all sizes in range
  pub IsTrueEverywhere : Condition → Type 0
  IsTrueEverywhere c = is_guarding c ≡ true → (sizes : List ℕ) → InRange leasts sizes → (x y : ℤ) → Holds sizes x y c

  at_gap : (c : Condition) (sizes : List ℕ) (x y : ℤ) → is_free (gap c) ≡ true → Holds sizes x y c ↔ (exact_value (gap c).rest sizes ≤ℤ pos 0)
  at_gap c sizes x y free =
      let same = free_value (gap c) free sizes x y in
      let holds = gap_holds c sizes x y in
      (λ h. let below = holds.0 h in omega (arith, ints), λ h. holds.1 (omega (arith, ints)))

  no_guard : (c : Condition) (free : Bool) → is_free (gap c) ≡ free → (is_guard leasts (gap c) ≡ false) ↔ IsTrueEverywhere c
  unfolding IsTrueEverywhere
  no_guard c false free = rw free (λ h t. absurd (cc), λ h. refl)
  no_guard c true free = (
    λ h _ sizes r x y. (at_gap c sizes x y free).1 (le_everywhere-at leasts (exact_value (gap c).rest) (λ _. pos 0) (everywhere_of _ (rw free at h)) sizes r),
    λ h. rw free (not_of _ (le_everywhere-from leasts (exact_value (gap c).rest) (λ _. pos 0) (λ sizes r. (at_gap c sizes (pos 0) (pos 0) free).0 (h free sizes r (pos 0) (pos 0))))),
  )

  unguarded : (cs : List Condition) → (list_any (is_guard leasts) (map gap cs) ≡ false) ↔ AllByRecursion IsTrueEverywhere cs
  unguarded [] = (λ h. tt, λ h. refl)
  unguarded (c ∷ cs) =
      let one = no_guard c (is_free (gap c)) refl in
      let rest = unguarded cs in
      let parts = or_false (is_guard leasts (gap c)) (list_any (is_guard leasts) (map gap cs)) in
      (λ h. (one.0 (parts.0 h).0, rest.0 (parts.0 h).1), λ h. parts.1 (one.1 h.0, rest.1 h.1))

  guards_hold : (cs : List Condition) → AllByRecursion IsTrueEverywhere cs ↔ ((sizes : List ℕ) → InRange leasts sizes → (x y : ℤ) → AllByRecursion (Holds sizes x y) (filter is_guarding cs))
  unfolding IsTrueEverywhere
  guards_hold [] = (λ h sizes r x y. tt, λ h. tt)
  guards_hold (c ∷ cs) =
      let rest = guards_hold cs in
      let kept = λ (sizes : List ℕ) (x y : ℤ). all_filter (Holds sizes x y) is_guarding (is_guarding c) c cs refl in (
        λ h sizes r x y. (kept sizes x y).1 (λ free. h.0 free sizes r x y, rest.0 h.1 sizes r x y),
        λ h. (λ free sizes r x y. ((kept sizes x y).0 (h sizes r x y)).0 free, rest.1 (λ sizes r x y. ((kept sizes x y).0 (h sizes r x y)).1)),
      )

  pub unguarded_is : (cs : List Condition) → (list_any (is_guard leasts) (map gap cs) ≡ false) ↔ ((sizes : List ℕ) → InRange leasts sizes → (x y : ℤ) → AllByRecursion (Holds sizes x y) (filter is_guarding cs))
  unguarded_is cs = (λ h. (guards_hold cs).0 ((unguarded cs).0 h), λ h. (unguarded cs).1 ((guards_hold cs).1 h))
