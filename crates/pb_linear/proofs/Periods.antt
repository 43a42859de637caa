-- The law of parts: where a part of one variable grows by a constant when the variable grows by 12, its greatest value and
-- the least size that reaches it stand among the first twelve or the last twelve sizes of a range.
use Rattle.std.proofs.Common.{◌≡◌, ℕ, zero, suc, ◌+◌, ◌-◌, ◌*◌, ◌/◌, ◌%◌, ◌<◌, ◌≤◌, min, max, ◌⊎◌, inl, inr, ℤ, pos, negsuc, ◌+ℤ◌, ◌≤ℤ◌, ◌<ℤ◌, refl, ap, arith}
use Rattle.std.proofs.lemmas.Bool.{cases_lt}
use Rattle.std.proofs.lemmas.Int.{ints}
use Rattle.pb_linear.specs.Most.{FirstGreatest}

-- a part that grows by c when the variable grows by 12
pub record Steps (g : ℕ → ℤ) (c : ℤ) : Type 0 where
  pub step : (v : ℕ) → g (v + 12) ≡ g v +ℤ c

-- one of the first twelve or the last twelve sizes from `start` to before `end` that is as good as u
pub record AsGood (g : ℕ → ℤ) (start end u w : ℕ) : Type 0 where
  pub low : start ≤ w
  pub high : w < end
  pub near : (w < start + 12) ⊎ (end ≤ w + 12)
  pub good : g u ≤ℤ g w
  pub first : (w ≤ u) ⊎ (g u <ℤ g w)

climb : (g : ℕ → ℤ) (c : ℤ) → Steps g c → pos 0 <ℤ c → (k u : ℕ) → (g u ≤ℤ g (u + 12 * k)) × ((k ≡ 0) ⊎ (g u <ℤ g (u + 12 * k)))
climb g c steps up zero u = let same : u + 12 * 0 ≡ u = omega arith in rw same (omega (arith, ints), inl refl)
climb g c steps up (suc k) u =
    let same : u + 12 * suc k ≡ u + 12 * k + 12 = omega arith in
    let rest = climb g c steps up k u in
    rw same (omega (arith, ints, rest.0, steps.step (u + 12 * k)), inr (omega (arith, ints, rest.0, steps.step (u + 12 * k))))

descend : (g : ℕ → ℤ) (c : ℤ) → Steps g c → c ≤ℤ pos 0 → (k w u : ℕ) → w + 12 * k ≡ u → g u ≤ℤ g w
descend g c steps down zero w u e = let same : w ≡ u = omega arith in omega (arith, ints, ap g same)
descend g c steps down (suc k) w u e =
    let same : w + 12 * k + 12 ≡ u = omega arith in
    omega (arith, ints, descend g c steps down k w (w + 12 * k) refl, steps.step (w + 12 * k), ap g same)

good_below : (g : ℕ → ℤ) (c : ℤ) → Steps g c → c ≤ℤ pos 0 → (start end u : ℕ) → start ≤ u → u < end → (w : ℕ) × AsGood g start end u w
good_below g c steps down start end u low high = (
  (u - start) % 12 + start,
  record {
    low = omega arith;
    high = omega arith;
    near = inl (omega arith);
    good = descend g c steps down ((u - start) / 12) ((u - start) % 12 + start) u (omega arith);
    first = inl (omega arith);
  },
)

good_above : (g : ℕ → ℤ) (c : ℤ) → Steps g c → pos 0 <ℤ c → (start end u : ℕ) → start ≤ u → u < end → (w : ℕ) × AsGood g start end u w
good_above g c steps up start end u low high =
    let k : ℕ = (end - 1 - u) / 12 in
    let risen = climb g c steps up k u in (
      u + 12 * k,
      record {
        low = omega arith;
        high = omega arith;
        near = inr (omega arith);
        good = risen.0;
        first = elim risen.1 [ inl none ↦ inl (omega arith) | inr more ↦ inr more ];
      },
    )

pub as_good : (g : ℕ → ℤ) (c : ℤ) → Steps g c → (start end u : ℕ) → start ≤ u → u < end → (w : ℕ) × AsGood g start end u w
as_good g (pos zero) steps = good_below g (pos zero) steps (omega (arith, ints))
as_good g (pos (suc n)) steps = good_above g (pos (suc n)) steps (omega (arith, ints))
as_good g (negsuc n) steps = good_below g (negsuc n) steps (omega (arith, ints))

-- the law: the least size that reaches the greatest value is one of the first twelve or of the last twelve
pub first_is_near : (g : ℕ → ℤ) (c : ℤ) → Steps g c → (start end place : ℕ) → FirstGreatest g start end place → (place < start + 12) ⊎ (end ≤ place + 12)
first_is_near g c steps start end place f =
    let (w, good) = as_good g c steps start end place f.low f.high in
    elim good.first [
      | inl before ↦ elim (cases_lt w place) [
        | inl less ↦ absurd (omega (arith, ints, good.good, f.first w good.low less))
        | inr more ↦ let same : w ≡ place = omega arith in rw same at good.near
      ]
      | inr more ↦ absurd (omega (arith, ints, more, f.greatest w good.low good.high))
    ]

-- the best of the first twelve sizes, and the best of the last twelve
module _ (g : ℕ → ℤ) (c : ℤ) (steps : Steps g c) (start end near far : ℕ) (a : FirstGreatest g start (min (start + 12) end) near) (b : FirstGreatest g (max start (end - 12)) end far) where
  at_near : (w : ℕ) → start ≤ w → w < end → w < start + 12 → g w ≤ℤ g near
  at_near w low high close = a.greatest w low (omega arith)

  at_far : (w : ℕ) → start ≤ w → w < end → end ≤ w + 12 → g w ≤ℤ g far
  at_far w low high close = b.greatest w (omega arith) high

  best : (p : ℕ) → g near ≤ℤ g p → g far ≤ℤ g p → (u : ℕ) → start ≤ u → u < end → g u ≤ℤ g p
  best p over_near over_far u low high =
      let (w, good) = as_good g c steps start end u low high in
      elim good.near [
        | inl close ↦ omega (arith, ints, good.good, at_near w good.low good.high close)
        | inr close ↦ omega (arith, ints, good.good, at_far w good.low good.high close)
      ]

  before_far : g near <ℤ g far → (u : ℕ) → start ≤ u → u < far → g u <ℤ g far
  before_far better u low below =
      let (w, good) = as_good g c steps start end u low (omega arith) in
      elim good.near [
        | inl close ↦ omega (arith, ints, good.good, at_near w good.low good.high close)
        | inr close ↦ elim good.first [
          | inl before ↦ omega (arith, ints, good.good, b.first w (omega arith) (omega arith))
          | inr more ↦ omega (arith, ints, more, at_far w good.low good.high close)
        ]
      ]

  -- the better of the two, the near one where they are equal, is the best of the whole range
  pub far_is_first : g near <ℤ g far → FirstGreatest g start end far
  far_is_first better = record {
    low = omega arith;
    high = b.high;
    greatest = best far (omega (arith, ints)) (omega (arith, ints));
    first = before_far better;
  }

  pub near_is_first : g far ≤ℤ g near → FirstGreatest g start end near
  near_is_first better = record {
    low = a.low;
    high = omega arith;
    greatest = best near (omega (arith, ints)) better;
    first = a.first;
  }
