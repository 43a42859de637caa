-- A program is sound or refused by the first phase that finds a fault.
use Rattle.std.proofs.Common.{◌≡◌, ◌⊎◌, inl, inr, ℕ, List, [], length, Result, Ok, Err, slice_get, Some, subst}
use Rattle.std.specs.Prelude.{IfErr}
use Rattle.std.specs.List.{All}
use Rattle.pb_linear.specs.Sizes.{IsRanges}
use Rattle.pb_syntax.specs.declared.refusal.Refusal.{Refusal}
use Rattle.pb_syntax.specs.declared.refusal.Refusal.TheVariants.{Memory}
use Rattle.pb_program.specs.Trees.{ProgRule, ProgTransform}
use Rattle.pb_program.specs.WellFormed.{IsTransform, IsWellFormed}
use Rattle.pb_types.specs.Types.{broken, IsRefused as HasBadTypes}
use Rattle.pb_types.proofs.LawLemmas.{right_or_refused, one_refusal as one_place, not_both as right_and_wrong}
use Rattle.pb_region.specs.Dims.{AreSides, HasNegative}
use Rattle.pb_region.specs.Rules.{IsAccepted, IsRefused as HasBadBounds}
use Rattle.pb_region.proofs.AnswerLemmas.{some_answer, one_refusal as one_cause, not_both as accepted_and_refused}
use Rattle.pb_region.proofs.NegativeLemmas.{not_refused, one_negative}
use Rattle.pb_region.proofs.SomeLemmas.{sides_or_refused}
use Rattle.pb_region.proofs.SmallLemmas.{at_place, small_transform}
use Rattle.pb_check.specs.Firsts.{IsFirst}
use Rattle.pb_check.specs.Cuts.{AreCut, AreCutInto, CutValue, FailsCut}
use Rattle.pb_check.specs.Orders.{AnalysisValue, AreFound, HasNoOrder, IsOrdered}
use Rattle.pb_check.specs.Phases.{FailsBounds, FailsCuts, FailsLater, FailsRule, IsBounded, IsRefused, IsSound, IsUnbounded, IsUncuttable, IsUnorderable}
use Rattle.pb_check.proofs.CutLemmas.{all_cut}
use Rattle.pb_check.proofs.SegmentLemmas.{cut_answer, cut_apart, one_failing}
use Rattle.pb_check.proofs.FirstLemmas.{all_at, none_first, same_item, same_place, some_first}
use Rattle.pb_check.proofs.OrderLemmas.{all_ordered}
use Rattle.pb_check.proofs.OrderedLemmas.{one_no_order, order_answer, order_apart}

pub by_types : (p : List ProgTransform) (e : Refusal) → (e ≡ Memory) ⊎ HasBadTypes p e → (e ≡ Memory) ⊎ IsRefused p e
by_types p e (inl is) = inl is
by_types p e (inr bad) = inr (inl bad)

pub by_bounds : (p : List ProgTransform) (e : Refusal) → broken p ≡ [] → (e ≡ Memory) ⊎ IsUnbounded p e → (e ≡ Memory) ⊎ IsRefused p e
by_bounds p e right (inl is) = inl is
by_bounds p e right (inr bad) = inr (inr (right, inl bad))

pub by_cuts : (p : List ProgTransform) (e : Refusal) → broken p ≡ [] → All IsBounded p → (e ≡ Memory) ⊎ IsUncuttable p e → (e ≡ Memory) ⊎ IsRefused p e
by_cuts p e right bounded (inl is) = inl is
by_cuts p e right bounded (inr bad) = inr (inr (right, inr (bounded, inl bad)))

pub by_order : (p : List ProgTransform) (cuts : List CutValue) (e : Refusal) → broken p ≡ [] → All IsBounded p → AreCutInto p cuts → (e ≡ Memory) ⊎ IsUnorderable p e → (e ≡ Memory) ⊎ IsRefused p e
by_order p cuts e right bounded cut (inl is) = inl is
by_order p cuts e right bounded cut (inr bad) = inr (inr (right, inr (bounded, inr (all_cut p cuts cut, bad))))

pub order_refused : {A : Type 0} (p : List ProgTransform) (cuts : List CutValue) (o : Result A Refusal) → broken p ≡ [] → All IsBounded p → AreCutInto p cuts → IfErr o (λ e. (e ≡ Memory) ⊎ IsUnorderable p e) → IfErr o (λ e. (e ≡ Memory) ⊎ IsRefused p e)
order_refused p cuts (Ok a) right bounded cut h = tt
order_refused p cuts (Err e) right bounded cut h = by_order p cuts e right bounded cut h

-- where the order of the segments of all transforms is found, the program is sound
pub sound_is : (p : List ProgTransform) (cuts : List CutValue) (found : List AnalysisValue) → broken p ≡ [] → All IsBounded p → AreCutInto p cuts → AreFound p found → IsSound p
sound_is p cuts found right bounded cut h = record { typed = right; bounded = bounded; cut = all_cut p cuts cut; ordered = all_ordered p found h }

-- the rules of a transform
module _ (n : ℕ) (t : ProgTransform) where
  rule_apart : (e : Refusal) (k : ℕ) (r : ProgRule) → IsAccepted t r → HasBadBounds n k t r e → ⊥
  rule_apart e k r good bad = accepted_and_refused n k t r e good bad

  one_rule : (e f : Refusal) → FailsRule n t e → FailsRule n t f → e ≡ f
  one_rule e f a b =
      let P : Refusal → ℕ → ProgRule → Type 0 = λ x k r. HasBadBounds n k t r x in
      let place = same_place (IsAccepted t) (P e) (P f) (rule_apart e) (rule_apart f) t.rules a b in
      let item = same_item (IsAccepted t) (P e) (P f) t.rules a b place in
      one_cause n b.place t b.item e f (subst (λ r. P e b.place r) item (subst (λ k. P e k a.item) place a.fails)) b.fails

  -- a transform is bounded, or refused for one reason
  apart : (e : Refusal) → IsBounded t → FailsBounds n t e → ⊥
  apart e good (inl side) = not_refused n t e good.sides side
  apart e good (inr (sides, rule)) = none_first (IsAccepted t) (λ k r. HasBadBounds n k t r e) (rule_apart e) t.rules good.rules rule

  one_bound : (e f : Refusal) → FailsBounds n t e → FailsBounds n t f → e ≡ f
  one_bound e f (inl side) (inl other) = one_negative n t e f side other
  one_bound e f (inl side) (inr (sides, rule)) = absurd (not_refused n t e sides side)
  one_bound e f (inr (sides, rule)) (inl side) = absurd (not_refused n t f sides side)
  one_bound e f (inr (sides, rule)) (inr (again, other)) = one_rule e f rule other

  some_rule : AreSides t → All (IsAccepted t) t.rules ⊎ IsFirst (IsAccepted t) (λ k r. (e : Refusal) × HasBadBounds n k t r e) t.rules → IsBounded t ⊎ ((e : Refusal) × FailsBounds n t e)
  some_rule sides (inl all) = inl (record { sides = sides; rules = all })
  some_rule sides (inr f) = inr (f.fails.0, inr (sides, record { place = f.place; item = f.item; there = f.there; fails = f.fails.1; earlier = f.earlier }))

  rule_answer : (k : ℕ) (r : ProgRule) → IsAccepted t r ⊎ ((e : Refusal) × HasBadBounds n k t r e)
  rule_answer k r = elim (some_answer n k t r) [ inl good ↦ inl good | inr bad ↦ inr (bad.why, bad.told) ]

  sides_by : AreSides t ⊎ HasNegative n t → IsBounded t ⊎ ((e : Refusal) × FailsBounds n t e)
  sides_by (inl sides) = some_rule sides (some_first (IsAccepted t) (λ k r. (e : Refusal) × HasBadBounds n k t r e) t.rules (λ k r at. rule_answer k r))
  sides_by (inr bad) = inr (bad.why, inl bad.told)

  bound_answer : IsRanges t.ranges → IsBounded t ⊎ ((e : Refusal) × FailsBounds n t e)
  bound_answer ok = sides_by (sides_or_refused n t ok)

-- the transforms of a program
module _ (p : List ProgTransform) (well : IsWellFormed p) where
  abbrev Answer : Type 0
  Answer = IsSound p ⊎ ((e : Refusal) × IsRefused p e)

  fits : (k : ℕ) (t : ProgTransform) → slice_get p k ≡ Some t → IsTransform (length p) t
  fits k t at = at_place (IsTransform (length p)) p k t well.transforms at

  some_orders : broken p ≡ [] → All IsBounded p → All AreCut p → All IsOrdered p ⊎ IsFirst IsOrdered (λ k t. (e : Refusal) × HasNoOrder t k e) p → Answer
  some_orders right bounded cut (inl all) = inl (record { typed = right; bounded = bounded; cut = cut; ordered = all })
  some_orders right bounded cut (inr f) =
      inr (f.fails.0, inr (right, inr (bounded, inr (cut, record { place = f.place; item = f.item; there = f.there; fails = f.fails.1; earlier = f.earlier }))))

  order_at : All IsBounded p → All AreCut p → (k : ℕ) (t : ProgTransform) → slice_get p k ≡ Some t → IsOrdered t ⊎ ((e : Refusal) × HasNoOrder t k e)
  order_at bounded cut k t at = order_answer (length p) t (fits k t at) (all_at IsBounded p k t bounded at) (all_at AreCut p k t cut at) k

  some_cuts : broken p ≡ [] → All IsBounded p → All AreCut p ⊎ IsFirst AreCut (λ k t. (e : Refusal) × FailsCut t k e) p → Answer
  some_cuts right bounded (inl all) = some_orders right bounded all (some_first IsOrdered (λ k t. (e : Refusal) × HasNoOrder t k e) p (order_at bounded all))
  some_cuts right bounded (inr f) = inr (f.fails.0, inr (right, inr (bounded, inl (record { place = f.place; item = f.item; there = f.there; fails = f.fails.1; earlier = f.earlier }))))

  some_bounds : broken p ≡ [] → All IsBounded p ⊎ IsFirst IsBounded (λ k t. (e : Refusal) × FailsBounds k t e) p → Answer
  some_bounds right (inl all) =
      some_cuts right all (some_first AreCut (λ k t. (e : Refusal) × FailsCut t k e) p (λ k t at. cut_answer (length p) t (fits k t at) (small_transform p well k t at).ranges k))
  some_bounds right (inr f) = inr (f.fails.0, inr (right, inl (record { place = f.place; item = f.item; there = f.there; fails = f.fails.1; earlier = f.earlier })))

  sound_by : (broken p ≡ []) ⊎ ((e : Refusal) × HasBadTypes p e) → Answer
  sound_by (inl right) = some_bounds right (some_first IsBounded (λ k t. (e : Refusal) × FailsBounds k t e) p (λ k t at. bound_answer k t (small_transform p well k t at).ranges))
  sound_by (inr bad) = inr (bad.0, inl bad.1)

  pub sound_or_refused : IsSound p ⊎ ((e : Refusal) × IsRefused p e)
  sound_or_refused = sound_by (right_or_refused p)

-- ---- at most one refusal
-- the refusals of a phase that takes the transforms in their order
module _ (Holds : ProgTransform → Type 0) (Fails : Refusal → ℕ → ProgTransform → Type 0) (apart_by : (e : Refusal) (k : ℕ) (t : ProgTransform) → Holds t → Fails e k t → ⊥)
    (one : (e f : Refusal) (k : ℕ) (t : ProgTransform) → Fails e k t → Fails f k t → e ≡ f) where
  one_phase : (p : List ProgTransform) (e f : Refusal) → IsFirst Holds (Fails e) p → IsFirst Holds (Fails f) p → e ≡ f
  one_phase p e f a b =
      let place = same_place Holds (Fails e) (Fails f) (apart_by e) (apart_by f) p a b in
      let item = same_item Holds (Fails e) (Fails f) p a b place in
      one e f b.place b.item (subst (λ t. Fails e b.place t) item (subst (λ k. Fails e k a.item) place a.fails)) b.fails

one_unbounded : (p : List ProgTransform) (e f : Refusal) → IsUnbounded p e → IsUnbounded p f → e ≡ f
one_unbounded = one_phase IsBounded (λ e k t. FailsBounds k t e) (λ e k t. apart k t e) (λ e f k t. one_bound k t e f)

one_uncuttable : (p : List ProgTransform) (e f : Refusal) → IsUncuttable p e → IsUncuttable p f → e ≡ f
one_uncuttable = one_phase AreCut (λ e k t. FailsCut t k e) (λ e k t. cut_apart k t e) (λ e f k t. one_failing k t e f)

one_unorderable : (p : List ProgTransform) (e f : Refusal) → IsUnorderable p e → IsUnorderable p f → e ≡ f
one_unorderable = one_phase IsOrdered (λ e k t. HasNoOrder t k e) (λ e k t. order_apart t k e) (λ e f k t. one_no_order t k e f)

bounded_apart : (p : List ProgTransform) (e : Refusal) → All IsBounded p → IsUnbounded p e → ⊥
bounded_apart p e all bad = none_first IsBounded (λ k t. FailsBounds k t e) (λ k t. apart k t e) p all bad

cuttable_apart : (p : List ProgTransform) (e : Refusal) → All AreCut p → IsUncuttable p e → ⊥
cuttable_apart p e all bad = none_first AreCut (λ k t. FailsCut t k e) (λ k t. cut_apart k t e) p all bad

ordered_apart : (p : List ProgTransform) (e : Refusal) → All IsOrdered p → IsUnorderable p e → ⊥
ordered_apart p e all bad = none_first IsOrdered (λ k t. HasNoOrder t k e) (λ k t. order_apart t k e) p all bad

one_cut_refusal : (p : List ProgTransform) (e f : Refusal) → FailsCuts p e → FailsCuts p f → e ≡ f
one_cut_refusal p e f (inl a) (inl b) = one_uncuttable p e f a b
one_cut_refusal p e f (inl a) (inr (all, b)) = absurd (cuttable_apart p e all a)
one_cut_refusal p e f (inr (all, a)) (inl b) = absurd (cuttable_apart p f all b)
one_cut_refusal p e f (inr (all, a)) (inr (again, b)) = one_unorderable p e f a b

one_later : (p : List ProgTransform) (e f : Refusal) → FailsLater p e → FailsLater p f → e ≡ f
one_later p e f (inl a) (inl b) = one_unbounded p e f a b
one_later p e f (inl a) (inr (all, b)) = absurd (bounded_apart p e all a)
one_later p e f (inr (all, a)) (inl b) = absurd (bounded_apart p f all b)
one_later p e f (inr (all, a)) (inr (again, b)) = one_cut_refusal p e f a b

pub one_refusal : (p : List ProgTransform) (e f : Refusal) → IsRefused p e → IsRefused p f → e ≡ f
one_refusal p e f (inl bad) (inl worse) = one_place p e f bad worse
one_refusal p e f (inl bad) (inr (right, later)) = absurd (right_and_wrong p e right bad)
one_refusal p e f (inr (right, later)) (inl bad) = absurd (right_and_wrong p f right bad)
one_refusal p e f (inr (right, a)) (inr (again, b)) = one_later p e f a b

pub not_both : (p : List ProgTransform) (e : Refusal) → IsSound p → IsRefused p e → ⊥
not_both p e sound (inl bad) = right_and_wrong p e sound.typed bad
not_both p e sound (inr (right, inl a)) = bounded_apart p e sound.bounded a
not_both p e sound (inr (right, inr (all, inl a))) = cuttable_apart p e sound.cut a
not_both p e sound (inr (right, inr (all, inr (cut, a)))) = ordered_apart p e sound.ordered a
