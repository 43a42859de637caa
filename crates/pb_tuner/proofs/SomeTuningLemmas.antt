-- Where costs are told, there is a tuning.
use Rattle.std.proofs.Common.{◌≡◌, ◌≢◌, ◌∙◌, refl, sym, ap, ℕ, zero, suc, ◌+◌, ◌*◌, ◌<◌, Bool, true, false, cond, List, [], ◌∷◌, ◌++◌, map, Option, Some, None, ◌⊎◌, inl, inr, arith}
use Rattle.std.specs.Prelude.{nat_eq}
use Rattle.std.specs.BTreeMap.{insert_entry}
use Rattle.std.specs.Cmp.{nat_cmp_is}
use Rattle.std.specs.List.{AllByRecursion}
use Rattle.std.specs.List.Sorted.{IsStrictlySortedBy}
use Rattle.std.specs.Map.{keys_of, lookup, values_of}
use Rattle.std.specs.Ordering.{match_ordering, nat_cmp, ordering_reverse}
use Rattle.std.specs.declared.cmp.Ordering.{Ordering}
use Rattle.std.specs.declared.cmp.Ordering.TheVariants.{Equal, Greater, Less}
use Rattle.std.proofs.lemmas.Bool.{cases_lt, cases_order, eqb-true}
use Rattle.std.proofs.lemmas.Cmp.{nat_cmp_total}
use Rattle.std.proofs.lemmas.List.Elements.{All-from_recursion, recursion_from_All}
use Rattle.std.proofs.lemmas.Map.Keys.{IsStrictlyIncreasing-from_sorted}
use Rattle.std.proofs.lemmas.Map.Views.{All-keys-insert_entry}
use Rattle.pb_program.specs.Configs.{ConfigValue, SiteValue}
use Rattle.pb_tuner.specs.Judged.{Costs, IsTold}
use Rattle.pb_tuner.specs.Tuned.{After, AreAsked, AreTold, IsAnswer, IsNext, IsTuned, candidates, fits, selected}
use Rattle.pb_tuner.specs.Tuned.After.{start, generation}
use Rattle.pb_tuner.specs.declared.journal.Asked.{Asked}
use Rattle.pb_tuner.specs.declared.judge.Cost.{Cost}
use Rattle.pb_tuner.specs.declared.judge.Cost.TheVariants.{Fit, Unfit, Failed}
use Rattle.pb_tuner.proofs.GenerationLemmas.{at_least, some_member}
use Rattle.pb_tuner.proofs.ValidLemmas.{all_append, all_weaker}

-- ---- questions have answers
cost_of : Option ℕ → Cost
cost_of (Some n) = Fit n
cost_of None = Unfit

never_failed : (o : Option ℕ) → cost_of o ≢ Failed
unfolding cost_of
never_failed (Some n) e = cc
never_failed None e = cc

module _ (costs : Costs) (size : ℕ) where
  abbrev answer : ConfigValue → Asked
  answer c = record { size = size; config = c; cost = cost_of (costs c size) }

  told : (c : ConfigValue) (o : Option ℕ) → costs c size ≡ o → IsTold (Some costs) c size (cost_of o)
  unfolding cost_of
  told c (Some n) is = is
  told c None is = is

  those : (configs : List ConfigValue) → map (λ a. a.config) (map answer configs) ≡ configs
  those [] = refl
  those (c ∷ configs) = ap (λ rest. c ∷ rest) (those configs)

  answers : (configs : List ConfigValue) → AllByRecursion (IsAnswer size) (map answer configs)
  answers [] = tt
  answers (c ∷ configs) = (record { at = refl; answered = never_failed (costs c size) }, answers configs)

  are_told : (configs : List ConfigValue) → AreTold (Some costs) (map answer configs)
  are_told [] = tt
  are_told (c ∷ configs) = (told c (costs c size) refl, are_told configs)

  are_asked : (configs : List ConfigValue) → AreAsked size configs (map answer configs)
  are_asked configs = record { those = those configs; answers = answers configs }

-- ---- fits have a ranking
chosen_twice : {A : Type 0} (a b : Bool) (x y z : A) → a ≡ b → cond b x z ≡ cond a x (cond b y z)
chosen_twice true true x y z same = refl
chosen_twice true false x y z same = absurd (cc)
chosen_twice false true x y z same = absurd (cc)
chosen_twice false false x y z same = refl

chosen_apart : {A : Type 0} (a b : Bool) (x y z : A) → (a ≡ true → b ≡ true → ⊥) → cond b y (cond a x z) ≡ cond a x (cond b y z)
chosen_apart true true x y z apart = absurd (apart refl refl)
chosen_apart true false x y z apart = refl
chosen_apart false true x y z apart = refl
chosen_apart false false x y z apart = refl

-- entries in order, with one more in its place
module _ (k : ℕ) (v : ConfigValue) where
  abbrev placed : List (ℕ × ConfigValue) → List (ℕ × ConfigValue)
  placed es = insert_entry nat_cmp es k v

  sorted_by : (e : ℕ × ConfigValue) (es : List (ℕ × ConfigValue)) (r : Ordering) → nat_cmp k e.0 ≡ r → IsStrictlySortedBy nat_cmp (keys_of (e ∷ es)) → IsStrictlySortedBy nat_cmp (keys_of (placed es))
      → IsStrictlySortedBy nat_cmp (keys_of (match_ordering r ((k, v) ∷ e ∷ es) ((e.0, v) ∷ es) (e ∷ placed es)))
  unfolding IsStrictlySortedBy
  sorted_by e es Less is sorted rest =
      ((is, all_weaker (λ y. nat_cmp e.0 y ≡ Less) (λ y. nat_cmp k y ≡ Less) (λ y less. nat_cmp_total.trans k e.0 y is less) (keys_of es) sorted.0), sorted)
  sorted_by e es Equal is sorted rest = sorted
  sorted_by e es Greater is sorted rest =
      let above : nat_cmp e.0 k ≡ Less = nat_cmp_total.antisymm e.0 k ∙ ap ordering_reverse is in
      let all = All-keys-insert_entry nat_cmp k v (λ y. nat_cmp e.0 y ≡ Less) es (All-from_recursion (λ y. nat_cmp e.0 y ≡ Less) (keys_of es) sorted.0) above in
      (recursion_from_All (λ y. nat_cmp e.0 y ≡ Less) (keys_of (placed es)) all, rest)

  placed_sorted : (es : List (ℕ × ConfigValue)) → IsStrictlySortedBy nat_cmp (keys_of es) → IsStrictlySortedBy nat_cmp (keys_of (placed es))
  unfolding IsStrictlySortedBy
  placed_sorted [] sorted = (tt, tt)
  placed_sorted (e ∷ es) sorted = sorted_by e es (nat_cmp k e.0) refl sorted (placed_sorted es sorted.1)

  placed_lookup : (cost : ℕ) (es : List (ℕ × ConfigValue)) → lookup (nat_eq cost) (placed es) ≡ cond (nat_eq cost k) (Some v) (lookup (nat_eq cost) es)
  placed_lookup cost [] = refl
  placed_lookup cost (e ∷ es) = by (cases_order k e.0) (placed_lookup cost es)
    where
      both : e.0 < k → nat_eq cost k ≡ true → nat_eq cost e.0 ≡ true → ⊥
      both above here there = omega (arith, above, eqb-true cost k here, eqb-true cost e.0 there)

      by : (k ≡ e.0) ⊎ ((k < e.0) ⊎ (e.0 < k)) → lookup (nat_eq cost) (placed es) ≡ cond (nat_eq cost k) (Some v) (lookup (nat_eq cost) es)
          → lookup (nat_eq cost) (placed (e ∷ es)) ≡ cond (nat_eq cost k) (Some v) (lookup (nat_eq cost) (e ∷ es))
      by (inl same) rest =
          rw (sym (nat_cmp_is k e.0 Equal same)) (chosen_twice (nat_eq cost k) (nat_eq cost e.0) (Some v) (Some e.1) (lookup (nat_eq cost) es) (ap (nat_eq cost) same))
      by (inr (inl below)) rest = rw (sym (nat_cmp_is k e.0 Less below)) refl
      by (inr (inr above)) rest =
          rw (sym (nat_cmp_is k e.0 Greater above), rest) (chosen_apart (nat_eq cost k) (nat_eq cost e.0) (Some v) (Some e.1) (lookup (nat_eq cost) es) (both above))

ranking_of : List (ℕ × ConfigValue) → List (ℕ × ConfigValue)
ranking_of [] = []
ranking_of (f ∷ all) = placed f.0 f.1 (ranking_of all)

in_order : (all : List (ℕ × ConfigValue)) → IsStrictlySortedBy nat_cmp (keys_of (ranking_of all))
unfolding IsStrictlySortedBy ranking_of
in_order [] = tt
in_order (f ∷ all) = placed_sorted f.0 f.1 (ranking_of all) (in_order all)

earliest : (cost : ℕ) (all : List (ℕ × ConfigValue)) → lookup (nat_eq cost) (ranking_of all) ≡ lookup (nat_eq cost) all
unfolding ranking_of
earliest cost [] = refl
earliest cost (f ∷ all) = placed_lookup f.0 f.1 cost (ranking_of all) ∙ ap (λ rest. cond (nat_eq cost f.0) (Some f.1) rest) (earliest cost all)

is_next : (population : List ConfigValue) (asked : List Asked) → IsNext population asked (selected population (values_of (ranking_of (fits asked))))
is_next population asked = record {
  ranking = ranking_of (fits asked);
  ranked = record { rising = IsStrictlyIncreasing-from_sorted (keys_of (ranking_of (fits asked))) (in_order (fits asked)); earliest = λ cost. earliest cost (fits asked) };
  kept = refl;
}

-- ---- generation by generation, until a size is past the bound
module _ (sites : List SiteValue) (up_to : ℕ) (costs : Costs) where
  abbrev Tuning : Type 0
  Tuning = (asked : List Asked) × (c : ConfigValue) × IsTuned sites up_to asked c × AreTold (Some costs) asked

  ends : (size : ℕ) (population : List ConfigValue) (asked : List Asked) → After sites up_to size population asked → AreTold (Some costs) asked → up_to < size → Tuning
  ends size [] asked after all past = absurd (omega (arith, some_member sites up_to after))
  ends size (c ∷ others) asked after all past = (asked, c, record { size = size; others = others; generations = after; all = past }, all)

  goes_on : (more size : ℕ) (population : List ConfigValue) (asked : List Asked) → After sites up_to size population asked → AreTold (Some costs) asked → up_to < size + more → Tuning
  goes_on zero size population asked after all near = ends size population asked after all (omega (arith, near))
  goes_on (suc more) size population asked after all near = elim (cases_lt up_to size) [
    | inl past ↦ ends size population asked after all past
    | inr within ↦ (let configs = candidates sites size population in
        let answered = map (answer costs size) configs in
        goes_on more (size * 2) _ (asked ++ answered) (generation after within (are_asked costs size configs) (is_next population answered))
        (all_append (λ a. IsTold (Some costs) a.config a.size a.cost) asked answered all (are_told costs size configs)) (omega (arith, near, at_least sites up_to after)))
  ]

pub some_tuning : (sites : List SiteValue) (up_to : ℕ) (costs : Costs) → (asked : List Asked) × (c : ConfigValue) × IsTuned sites up_to asked c × AreTold (Some costs) asked
some_tuning sites up_to costs = goes_on sites up_to costs up_to 1 _ [] start tt (omega arith)
