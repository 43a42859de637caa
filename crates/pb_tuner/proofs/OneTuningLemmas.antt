-- Where costs are told, there is one tuning.
use Rattle.std.proofs.Common.{◌≡◌, ◌≢◌, ℕ, ◌*◌, ◌<◌, ◌≤◌, ◌⊎◌, inl, inr, ⊎_elim, List, [], ◌∷◌, ◌++◌, map, Some, None, refl, sym, subst, ap, ◌∙◌, arith}
use Rattle.std.specs.List.{AllByRecursion}
use Rattle.std.specs.Map.{keys_of, values_of}
use Rattle.std.specs.BTreeMap.{is_at}
use Rattle.std.specs.Cmp.{nat_cmp_is}
use Rattle.std.specs.List.Sorted.{IsStrictlySortedBy}
use Rattle.std.specs.Ordering.{nat_cmp}
use Rattle.std.specs.declared.cmp.Ordering.TheVariants.{Less}
use Rattle.std.proofs.lemmas.Bool.{cases_eq, cases_order, eq-eqb, ne_eqb}
use Rattle.std.proofs.lemmas.Cmp.{eq_by_cmp_equiv, nat_cmp_total}
use Rattle.std.proofs.lemmas.Map.{lookup-none}
use Rattle.std.proofs.lemmas.Map.Entries.{lookup_head, lookup_tail, none_below_head, none_past_head}
use Rattle.std.proofs.lemmas.Map.Keys.{IsDistinct-from_sorted, sorted_from_strictly_increasing, sorted_tail}
use Rattle.pb_program.specs.Configs.{ConfigValue, SiteValue}
use Rattle.pb_tuner.specs.Judged.{Costs, IsTold}
use Rattle.pb_tuner.specs.Tuned.{After, AreTold, IsAnswer, IsNext, IsRanking, IsTuned, candidates, fits, selected}
use Rattle.pb_tuner.specs.Tuned.After.{start, generation}
use Rattle.pb_tuner.specs.declared.journal.Asked.{Asked}
use Rattle.pb_tuner.specs.declared.judge.Cost.{Cost}
use Rattle.pb_tuner.specs.declared.judge.Cost.TheVariants.{Fit, Unfit, Failed}
use Rattle.pb_tuner.proofs.GenerationLemmas.{at_least}
use Rattle.pb_tuner.proofs.SelectionLemmas.{at_cost, same_lookup, same_test}

-- what holds of each element of two lists
split_all : {X : Type 0} (P : X → Type 0) (xs ys : List X) → AllByRecursion P (xs ++ ys) → AllByRecursion P xs × AllByRecursion P ys
split_all P [] ys all = (tt, all)
split_all P (x ∷ xs) ys all = let rest = split_all P xs ys all.1 in ((all.0, rest.0), rest.1)

same_some : {A : Type 0} (x y : A) → Some x ≡ Some y → x ≡ y
same_some x y e = cc

head_same : {A : Type 0} (x y : A) (xs ys : List A) → x ∷ xs ≡ y ∷ ys → x ≡ y
head_same x y xs ys e = cc

tail_same : {A : Type 0} (x y : A) (xs ys : List A) → x ∷ xs ≡ y ∷ ys → xs ≡ ys
tail_same x y xs ys e = cc

-- of the same questions there is one list of answers
module _ (costs : Costs) where
  same_cost : (c : ConfigValue) (size : ℕ) (x y : Cost) → x ≢ Failed → y ≢ Failed → IsTold (Some costs) c size x → IsTold (Some costs) c size y → x ≡ y
  same_cost c size (Fit m) (Fit n) p q x y = ap Fit (same_some m n (sym x ∙ y))
  same_cost c size (Fit m) Unfit p q x y = absurd (cc)
  same_cost c size Unfit (Fit n) p q x y = absurd (cc)
  same_cost c size Unfit Unfit p q x y = refl
  same_cost c size Failed y p q x z = absurd (p refl)
  same_cost c size (Fit m) Failed p q x y = absurd (q refl)
  same_cost c size Unfit Failed p q x y = absurd (q refl)

  same_answer : (size : ℕ) (x y : Asked) → x.config ≡ y.config → IsAnswer size x → IsAnswer size y → IsTold (Some costs) x.config x.size x.cost → IsTold (Some costs) y.config y.size y.cost → x ≡ y
  same_answer size x y config is_x is_y told_x told_y =
      let at = is_x.at ∙ sym is_y.at in
      let told : IsTold (Some costs) x.config x.size y.cost = rw (config, at) told_y in
      let cost = same_cost x.config x.size x.cost y.cost is_x.answered is_y.answered told_x told in
      λ i. record { size = at i; config = config i; cost = cost i }

  same_asked : (size : ℕ) (a b : List Asked) → map (λ q. q.config) a ≡ map (λ q. q.config) b → AllByRecursion (IsAnswer size) a → AllByRecursion (IsAnswer size) b
      → AreTold (Some costs) a → AreTold (Some costs) b → a ≡ b
  same_asked size [] [] those is_a is_b told_a told_b = refl
  same_asked size [] (y ∷ b) those is_a is_b told_a told_b = absurd (cc)
  same_asked size (x ∷ a) [] those is_a is_b told_a told_b = absurd (cc)
  same_asked size (x ∷ a) (y ∷ b) those is_a is_b told_a told_b =
      let first = same_answer size x y (head_same _ _ _ _ those) is_a.0 is_b.0 told_a.0 told_b.0 in
      let rest = same_asked size a b (tail_same _ _ _ _ those) is_a.1 is_b.1 told_a.1 told_b.1 in
      λ i. first i ∷ rest i

-- of the same answers there is one next population
some_none : {A : Type 0} (x : A) → Some x ≡ None → ⊥
some_none x e = cc

at_head : (e : ℕ × ConfigValue) (es : List (ℕ × ConfigValue)) → at_cost e.0 (e ∷ es) ≡ Some e.1
at_head e es = lookup_head (is_at (nat_cmp e.0)) e es (same_test e.0 e.0 ∙ eq-eqb e.0 e.0 refl)

module _ (e : ℕ × ConfigValue) (es : List (ℕ × ConfigValue)) (sorted : IsStrictlySortedBy nat_cmp (keys_of (e ∷ es))) where
  none_below : (cost : ℕ) → cost < e.0 → at_cost cost (e ∷ es) ≡ None
  none_below cost below = lookup-none (is_at (nat_cmp cost)) (e ∷ es) (none_below_head nat_cmp_total cost e es sorted (sym (nat_cmp_is cost e.0 Less below)))

  none_past : (cost : ℕ) → cost ≡ e.0 → at_cost cost es ≡ None
  none_past cost same =
      lookup-none (is_at (nat_cmp cost)) es (none_past_head (eq_by_cmp_equiv nat_cmp_total) cost e es (IsDistinct-from_sorted nat_cmp (keys_of (e ∷ es)) sorted) (same_test cost e.0 ∙ eq-eqb cost e.0 same))

same_entries : (r s : List (ℕ × ConfigValue)) → IsStrictlySortedBy nat_cmp (keys_of r) → IsStrictlySortedBy nat_cmp (keys_of s) → ((cost : ℕ) → at_cost cost r ≡ at_cost cost s) → r ≡ s
same_entries [] [] x y same = refl
same_entries [] (e ∷ s) x y same = absurd (some_none e.1 (sym (at_head e s) ∙ sym (same e.0)))
same_entries (d ∷ r) [] x y same = absurd (some_none d.1 (sym (at_head d r) ∙ same d.0))
same_entries (d ∷ r) (e ∷ s) x y same =
    ⊎_elim (here (same_entries r s (sorted_tail nat_cmp d.0 (keys_of r) x) (sorted_tail nat_cmp e.0 (keys_of s) y))) (λ o. absurd (⊎_elim below above o)) (cases_order d.0 e.0)
  where
    below : d.0 < e.0 → ⊥
    below lt = some_none d.1 (sym (at_head d r) ∙ same d.0 ∙ none_below e s y d.0 lt)

    above : e.0 < d.0 → ⊥
    above lt = some_none e.1 (sym (at_head e s) ∙ sym (same e.0) ∙ none_below d r x e.0 lt)

    others : d.0 ≡ e.0 → (cost : ℕ) → (cost ≡ d.0 → ⊥) → at_cost cost r ≡ at_cost cost s
    others key cost other =
        sym (lookup_tail (is_at (nat_cmp cost)) d r (same_test cost d.0 ∙ ne_eqb cost d.0 other)) ∙ same cost ∙
        lookup_tail (is_at (nat_cmp cost)) e s (same_test cost e.0 ∙ ne_eqb cost e.0 (λ is. other (is ∙ sym key)))

    here : (((cost : ℕ) → at_cost cost r ≡ at_cost cost s) → r ≡ s) → d.0 ≡ e.0 → d ∷ r ≡ e ∷ s
    here tails key =
        let value = same_some d.1 e.1 (sym (at_head d r) ∙ same d.0 ∙ subst (λ k. at_cost k (e ∷ s) ≡ Some e.1) (sym key) (at_head e s)) in
        let rest = tails (λ cost. ⊎_elim (λ is. none_past d r x cost is ∙ sym (none_past e s y cost (is ∙ key))) (others key cost) (cases_eq cost d.0)) in
        λ i. (key i, value i) ∷ rest i

same_ranking : (all r s : List (ℕ × ConfigValue)) → IsRanking all r → IsRanking all s → r ≡ s
same_ranking all r s x y =
    same_entries r s (sorted_from_strictly_increasing (keys_of r) x.rising) (sorted_from_strictly_increasing (keys_of s) y.rising)
    (λ cost. same_lookup cost r ∙ x.earliest cost ∙ sym (y.earliest cost) ∙ sym (same_lookup cost s))

same_next : (population next other : List ConfigValue) (asked : List Asked) → IsNext population asked next → IsNext population asked other → next ≡ other
same_next population next other asked x y =
    x.kept ∙ ap (λ r. selected population (values_of r)) (same_ranking (fits asked) x.ranking y.ranking x.ranked y.ranked) ∙ sym y.kept

-- of generations to the same size there is one population and one journal
module _ (sites : List SiteValue) (up_to : ℕ) where
  apart : {s t : ℕ} {p q : List ConfigValue} {a b : List Asked} → After sites up_to s p a → After sites up_to t q b → (s ≡ t) ⊎ ((s * 2 ≤ t) ⊎ (t * 2 ≤ s))
  apart start start = inl refl
  apart start (generation y _ _ _) = inr (inl (omega (arith, at_least sites up_to y)))
  apart (generation x _ _ _) start = inr (inr (omega (arith, at_least sites up_to x)))
  apart (generation x _ _ _) (generation y _ _ _) =
      ⊎_elim (λ e. inl (ap (λ n. n * 2) e)) (λ o. inr (⊎_elim (λ below. inl (omega (arith, below))) (λ above. inr (omega (arith, above))) o)) (apart x y)

  last_size : {s : ℕ} {p : List ConfigValue} {a : List Asked} → After sites up_to s p a → (s ≡ 1) ⊎ (s ≤ up_to * 2)
  last_size start = inl refl
  last_size (generation x within _ _) = inr (omega (arith, within))

  not_double : {s t : ℕ} {p q : List ConfigValue} {a b : List Asked} → After sites up_to s p a → After sites up_to t q b → up_to < s → s * 2 ≤ t → ⊥
  not_double x y past double =
      ⊎_elim (λ e. absurd (omega (arith, e, double, at_least sites up_to x))) (λ few. absurd (omega (arith, few, double, past))) (last_size y)

  same_size : {s t : ℕ} {p q : List ConfigValue} {a b : List Asked} → After sites up_to s p a → After sites up_to t q b → up_to < s → up_to < t → s ≡ t
  same_size x y past_s past_t = ⊎_elim (λ e. e) (λ o. absurd (⊎_elim (not_double x y past_s) (not_double y x past_t) o)) (apart x y)

  same_after : {s t : ℕ} {p q : List ConfigValue} {a b : List Asked} (costs : Costs) → After sites up_to s p a → After sites up_to t q b → s ≡ t → AreTold (Some costs) a → AreTold (Some costs) b
      → (p ≡ q) × (a ≡ b)
  same_after costs start start e told_a told_b = (refl, refl)
  same_after costs start (generation y _ _ _) e told_a told_b = absurd (omega (arith, at_least sites up_to y, e))
  same_after costs (generation x _ _ _) start e told_a told_b = absurd (omega (arith, at_least sites up_to x, e))
  same_after costs (generation {size = s} {population = p} {before = a} {asked = c} x _ are_c to_n) (generation {size = t} {population = q} {next = m} {before = b} {asked = d} y _ are_d to_m) e told_a told_b =
      let size : s ≡ t = omega (arith, e) in
      let left = split_all _ a c told_a in
      let right = split_all _ b d told_b in
      let before = same_after costs x y size left.0 right.0 in
      let those = are_c.those ∙ (λ i. candidates sites (size i) (before.0 i)) ∙ sym are_d.those in
      let asked = same_asked costs s c d those are_c.answers (subst (λ n. AllByRecursion (IsAnswer n) d) (sym size) are_d.answers) left.1 right.1 in
      let other = subst (λ o. IsNext p o m) (sym asked) (subst (λ o. IsNext o d m) (sym before.0) to_m) in
      (same_next p _ m c to_n other, λ i. before.1 i ++ asked i)

pub one_tuning : (sites : List SiteValue) (up_to : ℕ) (costs : Costs) (a b : List Asked) (c d : ConfigValue) → IsTuned sites up_to a c → IsTuned sites up_to b d
    → AreTold (Some costs) a → AreTold (Some costs) b → (a ≡ b) × (c ≡ d)
one_tuning sites up_to costs a b c d x y told_a told_b =
    let same = same_after sites up_to costs x.generations y.generations (same_size sites up_to x.generations y.generations x.all y.all) told_a told_b in
    (same.1, head_same c d x.others y.others same.0)
