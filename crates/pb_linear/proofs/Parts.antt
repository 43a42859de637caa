-- The parts of a form, one variable each, and the greatest value as the sum of their greatest values.
use Rattle.std.proofs.Common.{◌≡◌, ℕ, zero, suc, ◌+◌, ◌/◌, ◌<◌, ◌≤◌, inl, inr, IsTrue, List, length, take, get_or, ℤ, pos, ◌+ℤ◌, ◌*ℤ◌, ◌≤ℤ◌, ◌<ℤ◌, int_le, refl, sym, ap, arith}
use Rattle.std.proofs.lemmas.Int.{ints}
use Rattle.std.proofs.lemmas.List.{get_or_past, get_or-take, length-take-le}
use Rattle.std.proofs.lemmas.Bool.{cases_lt}
use Rattle.pb_linear.specs.Limits.{is_zero_from}
use Rattle.pb_linear.specs.Most.{FirstGreatest, Most}
use Rattle.pb_linear.specs.Numbers.{Numbers, part, part_of, value_before}
use Rattle.pb_linear.specs.Sizes.{InRange, le_everywhere}
use Rattle.pb_linear.specs.declared.sizes.TheConstants.{SIZE_TOP}
use Rattle.pb_linear.proofs.Integers.{mul-add}
use Rattle.pb_linear.proofs.Periods.{Steps}
use Rattle.pb_linear.proofs.SizesLemmas.{InRange-length, InRange-at, everywhere_is, hold_from, size_at}

-- what a part grows by when its variable grows by 12
abbrev pub step_of : ℤ → ℤ → ℤ → ℤ → ℤ
step_of a b c d = a *ℤ pos 12 +ℤ b *ℤ pos 6 +ℤ c *ℤ pos 4 +ℤ d *ℤ pos 3

-- a quotient that is k more
quotient_step : (a : ℤ) (q r k : ℕ) → r ≡ q + k → a *ℤ pos r ≡ a *ℤ pos q +ℤ a *ℤ pos k
quotient_step a q r k e = rw e (mul-add a (pos q) (pos k))

pub part-steps : (a b c d : ℤ) → Steps (part a b c d) (step_of a b c d)
part-steps a b c d = record {
  step = λ v. omega (arith, ints, mul-add a (pos v) (pos 12), quotient_step b (v / 2) ((v + 12) / 2) 6 (omega arith), quotient_step c (v / 3) ((v + 12) / 3) 4 (omega arith), quotient_step d (v / 4) ((v + 12) / 4) 3 (omega arith));
}

-- ---- one more size
pub first_alone : (g : ℕ → ℤ) (v : ℕ) → FirstGreatest g v (v + 1) v
first_alone g v = record {
  low = omega arith;
  high = omega arith;
  greatest = λ u low high. let same : u ≡ v = omega arith in omega (arith, ints, ap g same);
  first = λ u low below. absurd (omega arith);
}

pub first_kept : (g : ℕ → ℤ) (start v best place : ℕ) → FirstGreatest g start v best → g v ≤ℤ g best → place ≡ best → FirstGreatest g start (v + 1) place
first_kept g start v best place b more same = rw same (record {
  low = b.low;
  high = omega arith;
  greatest = λ u low high. elim (cases_lt u v) [ inl below ↦ b.greatest u low below | inr at ↦ let here : u ≡ v = omega arith in rw here more ];
  first = b.first;
})

pub first_taken : (g : ℕ → ℤ) (start v best place : ℕ) → FirstGreatest g start v best → g best <ℤ g v → place ≡ v → FirstGreatest g start (v + 1) place
first_taken g start v best place b more same = rw same (record {
  low = omega arith;
  high = omega arith;
  greatest = λ u low high. elim (cases_lt u v) [ inl below ↦ omega (arith, ints, b.greatest u low below) | inr at ↦ let here : u ≡ v = omega arith in omega (arith, ints, ap g here) ];
  first = λ u low below. omega (arith, ints, b.greatest u low below);
})

-- ---- all variables
module _ (n : Numbers) (ls s : List ℕ) (few : length ls ≤ 8) (inside : InRange ls s) (best : (i : ℕ) → i < length ls → FirstGreatest (part_of n i) (get_or ls i 0) (SIZE_TOP + 1) (get_or s i 0)) where
  -- past the last variable both sizes are 0
  past : (t : List ℕ) → InRange ls t → (i : ℕ) → length ls ≤ i → get_or t i 0 ≡ get_or s i 0
  past t r i over = rw (get_or_past t i 0 (omega (arith, InRange-length ls t r)), get_or_past s i 0 (omega (arith, InRange-length ls s inside))) refl

  part_below : (t : List ℕ) → InRange ls t → (i : ℕ) → (part_of n i (get_or t i 0) ≤ℤ part_of n i (get_or s i 0)) × (get_or t i 0 < get_or s i 0 → part_of n i (get_or t i 0) <ℤ part_of n i (get_or s i 0))
  part_below t r i =
      elim (cases_lt i (length ls)) [
        | inl here ↦
            let at = InRange-at ls t r i here in
            ((best i here).greatest _ at.0 (omega (arith, at.1)), λ below. (best i here).first _ at.0 below)
        | inr over ↦
            let same = past t r i over in
            (omega (arith, ints, ap (part_of n i) same), λ below. absurd (omega arith))
      ]

  value_below : (t : List ℕ) → InRange ls t → (i : ℕ) → (value_before i n t ≤ℤ value_before i n s) × ((k : ℕ) → k < i → get_or t k 0 < get_or s k 0 → value_before i n t <ℤ value_before i n s)
  unfolding value_before
  value_below t r zero = (omega (arith, ints), λ k h. absurd (omega arith))
  value_below t r (suc i) =
      let rest = value_below t r i in
      let here = part_below t r i in (
        omega (arith, ints, rest.0, here.0),
        λ k h below. elim (cases_lt k i) [
          | inl before ↦ omega (arith, ints, rest.1 k before below, here.0)
          | inr at ↦ let same : i ≡ k = omega arith in omega (arith, ints, rest.0, here.1 (rw same below))
        ],
      )

  pub most_is : (m : ℤ) → value_before 8 n s ≡ m → Most (value_before 8 n) ls m s
  most_is m reached = record {
    in_range = inside;
    reached = reached;
    greatest = λ t r. omega (arith, ints, (value_below t r 8).0);
    least = λ t r equal i. elim (cases_lt (get_or t i 0) (get_or s i 0)) [
      | inl below ↦ elim (cases_lt i 8) [
        | inl here ↦ absurd (omega (arith, ints, (value_below t r 8).1 i here below))
        | inr over ↦ omega (arith, past t r i (omega arith))
      ]
      | inr good ↦ good
    ];
  }

-- the same for arrays with zeros past the count
pub most_of : (n : Numbers) (count size_count : ℕ) (least of : List ℕ) (m : ℤ) → length least ≡ 8 → length of ≡ 8 → count ≤ 8 → size_count ≡ count → IsTrue (is_zero_from size_count of) → ((i : ℕ) → i < count → FirstGreatest (part_of n i) (get_or least i 0) (SIZE_TOP + 1) (get_or of i 0)) → value_before 8 n (take size_count of) ≡ m → Most (value_before 8 n) (take count least) m (take size_count of)
most_of n count size_count least of m small full few counted zeros best reached =
    let ls = length-take-le count least (omega arith) in
    let at : (i : ℕ) → i < length (take count least) → FirstGreatest (part_of n i) (get_or (take count least) i 0) (SIZE_TOP + 1) (get_or (take size_count of) i 0) = λ i h. let below : i < count = omega arith in rw (get_or-take count least i 0 below, size_at size_count of zeros i) (best i below) in
    let inside = hold_from count size_count least of (sym counted) (omega arith) small full (λ k h. ((best k h).low, omega (arith, (best k h).high))) in
    most_is n (take count least) (take size_count of) (omega arith) inside at m reached

-- the greatest value is at most 0 exactly where every value is
pub most_test : (f : List ℕ → ℤ) (ls : List ℕ) (m : ℤ) (s : List ℕ) → Most f ls m s → int_le m (pos 0) ≡ le_everywhere ls f (λ _. pos 0)
most_test f ls m s most =
    everywhere_is (int_le m (pos 0)) ls (λ t. int_le (f t) (pos 0)) (λ low t r. let below : f t ≤ℤ m = most.greatest t r in grind (arith, ints)) (λ low. let here : IsTrue (int_le (f s) (pos 0)) = low s most.in_range in rw (← most.reached) here)
