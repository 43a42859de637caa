-- What is told of a call's count, from what is gathered of it.
use Rattle.std.proofs.Common.{◌≡◌, ◌∙◌, refl, sym, ap, subst, ℕ, zero, suc, ◌+◌, ◌-◌, ◌<◌, ◌≤◌, Bool, true, false, List, [], ◌∷◌, length, map, take, get_or, Option, Some, None, slice_get, arith}
use Rattle.std.specs.Prelude.{IsSomeAnd, nat_lt}
use Rattle.std.proofs.lemmas.Bool.Decides.{nat_tests}
use Rattle.std.proofs.lemmas.List.{map_more, take_all}
use Rattle.pb_program.specs.Configs.{ConfigValue}
use Rattle.pb_linear.specs.Sizes.{InRange, leasts_of}
use Rattle.pb_program.specs.Trees.{ProgTransform, bare_prog}
use Rattle.pb_check.specs.Accepting.{AcceptedValue, IsAccepted}
use Rattle.pb_check.specs.Orders.{AnalysisValue, AreFound}
use Rattle.pb_check.specs.Ranked.{OfTransform}
use Rattle.pb_recursion.specs.Counts.{Counted, all_of, both, instance_count, nothing}
use Rattle.pb_counts.specs.Tallies.{capped}
use Rattle.pb_counts.specs.declared.tally.Tally.{Tally}
use Rattle.pb_counts.specs.declared.count.TheConstants.{MOST_CALLS}
use Rattle.pb_counts.specs.Gathered.{CanCome, Entered, GatheredValue, all_next, rest_count, whole}
use Rattle.pb_counts.specs.Told.{Tells}
use Rattle.pb_counts.specs.Sized.{Sized, counter_of, sized_count}
use Rattle.pb_counts.proofs.AddLemmas.{all_push, both_nested, both_none, capped_right, capped_twice, capped_with}
use Rattle.pb_counts.proofs.DepthLemmas.{deeper_is, sized_is}

-- where counts are the same up to the top, they pass the limit together
pub passes : (a b : Counted) (before : ℕ) → capped a ≡ capped b → before ≤ MOST_CALLS → MOST_CALLS < before + a.calls → MOST_CALLS < before + b.calls
passes a b before same low many = let calls = ap (λ (c : Counted). c.calls) same in omega (arith, calls, low, many)

-- ---- calls to come
-- no call counts anything
abbrev no_call : Sized
no_call number sizes = nothing

none_next : (ns : List Entered) → all_next no_call ns ≡ nothing
none_next [] = refl
none_next (n ∷ ns) = ap (both nothing) (none_next ns)

module _ (f : Sized) (g : GatheredValue) (i : ℕ) where
  -- those before one of them
  abbrev pub so_far : Counted
  so_far = both g.tally (all_next f (take i g.next))

  step : (n : Entered) → i < length g.next → both g.tally (all_next f (take (i + 1) g.next)) ≡ both so_far (f (get_or g.next i n).0 (get_or g.next i n).1)
  step n below =
      ap (λ l. both g.tally (all_of l)) (map_more (λ m. f m.0 m.1) g.next i n below) ∙ ap (both g.tally) (all_push (map (λ (m : Entered). f m.0 m.1) (take i g.next)) (f (get_or g.next i n).0 (get_or g.next i n).1))
      ∙ sym (both_nested g.tally (all_next f (take i g.next)) (f (get_or g.next i n).0 (get_or g.next i n).1))

  pub told_next : (n : Entered) → i < length g.next → n ≡ get_or g.next i n → (tally one sum : Counted) → capped tally ≡ capped so_far → capped one ≡ capped (f n.0 n.1) → sum ≡ capped (both tally one) → capped sum ≡ capped (both g.tally (all_next f (take (i + 1) g.next)))
  told_next n below at tally one sum before is next =
      ap capped next ∙ capped_twice (both tally one) ∙ capped_with tally so_far one before ∙ sym (capped_right so_far one) ∙ ap (λ z. capped (both so_far z)) is ∙ capped_right so_far (f n.0 n.1)
      ∙ ap (λ (m : Entered). capped (both so_far (f m.0 m.1))) at ∙ ap capped (sym (step n below))

  pub told_end : (tally : Counted) → length g.next ≤ i → capped tally ≡ capped so_far → capped tally ≡ capped (whole f g)
  told_end tally past before = before ∙ ap (λ l. capped (both g.tally (all_next f l))) (take_all i g.next past)

-- one of them is among all
among : (f : Sized) (ns : List Entered) (i : ℕ) (n : Entered) → i < length ns → n ≡ get_or ns i n → (all_next f (take i ns)).calls + (f n.0 n.1).calls ≤ (all_next f ns).calls
among f [] i n below at = absurd (omega (arith, below))
among f (m ∷ ns) zero n below at = let same = ap (λ (k : Entered). (f k.0 k.1).calls) at in omega (arith, same)
among f (m ∷ ns) (suc i) n below at = let rest = among f ns i n (omega (arith, below)) at in omega (arith, rest)

pub many_next : (f : Sized) (g : GatheredValue) (i : ℕ) (n : Entered) (tally : Counted) (before : ℕ) → i < length g.next → n ≡ get_or g.next i n → capped tally ≡ capped (so_far f g i) → before + tally.calls ≤ MOST_CALLS → MOST_CALLS < before + tally.calls + (f n.0 n.1).calls → MOST_CALLS < before + (whole f g).calls
many_next f g i n tally before below at is few many =
    let rest = among f g.next i n below at in
    let calls = ap (λ (c : Counted). c.calls) is in
    omega (arith, rest, calls, few, many)

pub many_own : (f : Sized) (g : GatheredValue) (before : ℕ) → MOST_CALLS < before + g.tally.calls → MOST_CALLS < before + (whole f g).calls
many_own f g before many = omega (arith, many)

lt_is : (a b : ℕ) → a < b → nat_lt a b ≡ true
lt_is a b h = grind (arith, nat_tests, h)

-- ---- at a depth
module _ (p : List ProgTransform) (config : ConfigValue) (number : ℕ) (t : ProgTransform) (sizes : List ℕ) (there : slice_get p number ≡ Some t) (g : GatheredValue) where
  pub at_depth : (d : ℕ) → ((f : Sized) → capped (whole f g) ≡ capped (instance_count p config (counter_of p true f) number t sizes)) → capped (whole (sized_count p config d) g) ≡ capped (sized_count p config (suc d) number sizes)
  at_depth d is = is (sized_count p config d) ∙ ap (λ o. capped (instance_count p config o number t sizes)) (sym (deeper_is p config d)) ∙ ap capped (sym (sized_is p config (suc d) number t sizes there))

  pub at_bottom : ((f : Sized) → capped (whole f g) ≡ capped (instance_count p config (counter_of p false f) number t sizes)) → capped g.tally ≡ capped (sized_count p config 0 number sizes)
  at_bottom is = ap capped (both_none g.tally ∙ ap (both g.tally) (sym (none_next g.next))) ∙ is no_call ∙ ap capped (sym (sized_is p config 0 number t sizes there))

  pub at_any : (d : ℕ) → ((f : Sized) → capped (whole f g) ≡ capped (instance_count p config (counter_of p (nat_lt 0 d) f) number t sizes)) → capped (rest_count p config d g.tally g.next) ≡ capped (sized_count p config d number sizes)
  at_any zero is = at_bottom is
  at_any (suc d) is = at_depth d (λ f. subst (λ (b : Bool). capped (whole f g) ≡ capped (instance_count p config (counter_of p b f) number t sizes)) (lt_is 0 (suc d) (omega arith)) (is f))

-- ---- the same in an accepted program
own_calls : (p : List ProgTransform) (config : ConfigValue) (d : ℕ) (own : Counted) (next : List Entered) → own.calls ≤ (rest_count p config d own next).calls
own_calls p config zero own next = omega arith
own_calls p config (suc d) own next = omega arith

module _ (v : AcceptedValue) (config : ConfigValue) (t : ℕ) (sizes : List ℕ) (d : ℕ) (g : GatheredValue)
    (whole_is : OfTransform v t (λ transform found. (f : Sized) → capped (whole f g) ≡ capped (instance_count (bare_prog v.program) config (counter_of (bare_prog v.program) (nat_lt 0 d) f) t transform sizes))) where
  abbrev p : List ProgTransform
  p = bare_prog v.program

  sized_rest : capped (rest_count p config d g.tally g.next) ≡ capped (sized_count p config d t sizes)
  sized_rest = by (slice_get p t) (slice_get v.found t) refl whole_is
    where
      by : (o : Option ProgTransform) (q : Option AnalysisValue) → slice_get p t ≡ o → IsSomeAnd o (λ transform. IsSomeAnd q (λ (found : AnalysisValue). (f : Sized) → capped (whole f g) ≡ capped (instance_count p config (counter_of p (nat_lt 0 d) f) t transform sizes)))
          → capped (rest_count p config d g.tally g.next) ≡ capped (sized_count p config d t sizes)
      by None q e h = absurd h
      by (Some x) None e h = absurd h
      by (Some x) (Some a) e h = at_any p config t x sizes e g d h

  pub told_none : (before : ℕ) → before ≤ MOST_CALLS → MOST_CALLS < before + g.tally.calls → MOST_CALLS < before + (sized_count p config d t sizes).calls
  told_none before low many = passes (rest_count p config d g.tally g.next) (sized_count p config d t sizes) before sized_rest low (omega (arith, own_calls p config d g.tally g.next, many))

  pub told_rest : (own : Counted) (next : List Entered) → own ≡ g.tally → next ≡ g.next → (before : ℕ) → before ≤ MOST_CALLS → (o : Option Tally) → Tells before (rest_count p config d own next) o → Tells before (sized_count p config d t sizes) o
  told_rest own next own_is next_is before low (Some tally) h = (h.0 ∙ (λ z. capped (rest_count p config d (own_is z) (next_is z))) ∙ sized_rest, h.1)
  told_rest own next own_is next_is before low None h = passes (rest_count p config d own next) (sized_count p config d t sizes) before ((λ z. capped (rest_count p config d (own_is z) (next_is z))) ∙ sized_rest) low h

-- ---- calls to come
pub rest_suc : (p : List ProgTransform) (config : ConfigValue) (d : ℕ) (own : Counted) (next : List Entered) → (d ≡ 0 → ⊥) → both own (all_next (sized_count p config (d - 1)) next) ≡ rest_count p config d own next
rest_suc p config zero own next some_depth = absurd (some_depth refl)
rest_suc p config (suc d) own next some_depth = let less : suc d - 1 ≡ d = omega arith in ap (λ n. both own (all_next (sized_count p config n) next)) less

found_there : (p : List ProgTransform) (found : List AnalysisValue) → AreFound p found → (t : ℕ) (x : ProgTransform) → slice_get p t ≡ Some x → (a : AnalysisValue) × (slice_get found t ≡ Some a)
found_there [] found h t x e = absurd (let wrong : None ≡ Some x = e in cc)
found_there (y ∷ p) [] h t x e = absurd h
found_there (y ∷ p) (b ∷ found) h zero x e = (b, refl)
found_there (y ∷ p) (b ∷ found) h (suc t) x e = found_there p found h.1 t x e

-- what can come can be entered
pub can_enter : (v : AcceptedValue) → IsAccepted v → (n : Entered) → CanCome (bare_prog v.program) n → OfTransform v n.0 (λ transform found. InRange (leasts_of transform.ranges) n.1)
can_enter v accepted n can = by (slice_get (bare_prog v.program) n.0) refl can
  where
    by : (o : Option ProgTransform) → slice_get (bare_prog v.program) n.0 ≡ o → IsSomeAnd o (λ transform. InRange (leasts_of transform.ranges) n.1) → IsSomeAnd o (λ transform. IsSomeAnd (slice_get v.found n.0) (λ (found : AnalysisValue). InRange (leasts_of transform.ranges) n.1))
    by None e h = absurd h
    by (Some x) e h = let a = found_there (bare_prog v.program) v.found accepted.found n.0 x e in subst (λ q. IsSomeAnd q (λ (found : AnalysisValue). InRange (leasts_of x.ranges) n.1)) (sym a.1) h
