-- The earliest of each cost, and the first four.
use Rattle.std.proofs.Common.{◌≡◌, ℕ, ◌<◌, Bool, true, false, List, [], ◌∷◌, ◌≤◌, length, take, drop, Option, Some, None, refl, sym, subst, ◌∙◌, ⊎_elim, arith}
use Rattle.std.specs.BTreeMap.{is_at}
use Rattle.std.specs.List.Sorted.{IsStrictlySortedBy}
use Rattle.std.specs.Map.{keys_of, lookup, values_of}
use Rattle.std.specs.Option.{option_or}
use Rattle.std.specs.Ordering.{nat_cmp, is_eq}
use Rattle.std.specs.Prelude.{nat_eq, cond}
use Rattle.std.specs.declared.cmp.Ordering.TheVariants.{Equal, Greater}
use Rattle.std.proofs.lemmas.Bool.{cases_lt, le-ltb, lt-ltb, ne_eqb}
use Rattle.std.proofs.lemmas.Grind.{common_steps}
use Rattle.std.proofs.lemmas.Map.Keys.{IsStrictlyIncreasing-from_sorted}
use Rattle.pb_program.specs.Configs.{ConfigValue}
use Rattle.pb_tuner.specs.Tuned.{IsRanking, fits, selected}
use Rattle.pb_tuner.specs.declared.journal.Asked.{Asked}

-- the configuration of a cost, as a map finds it
abbrev pub at_cost : ℕ → List (ℕ × ConfigValue) → Option ConfigValue
at_cost cost entries = lookup (is_at (nat_cmp cost)) entries

-- among some, or else among others
abbrev pub before_or_among : ℕ → List (ℕ × ConfigValue) → List (ℕ × ConfigValue) → Option ConfigValue
before_or_among cost first rest = option_or (at_cost cost first) (at_cost cost rest)

-- equal costs are equal numbers
pub same_test : (a b : ℕ) → is_eq (nat_cmp a b) ≡ nat_eq a b
same_test a b = ⊎_elim
    (λ below. rw (lt-ltb a b below, ne_eqb a b (λ same. omega (arith, below))) refl)
    (λ above. rw (le-ltb a b above) (by (nat_eq a b)))
    (cases_lt a b)
  where
    by : (t : Bool) → is_eq (cond t Equal Greater) ≡ t
    by true = refl
    by false = refl

pub same_lookup : (cost : ℕ) (entries : List (ℕ × ConfigValue)) → at_cost cost entries ≡ lookup (nat_eq cost) entries
same_lookup cost [] = refl
same_lookup cost (e ∷ entries) = rw (same_test cost e.0, same_lookup cost entries) refl

or_none : {A : Type 0} (o : Option A) → option_or o None ≡ o
or_none None = refl
or_none (Some x) = refl

pub is_ranking : (asked : List Asked) (k : ℕ) (ranking : List (ℕ × ConfigValue)) → length asked ≤ k → IsStrictlySortedBy nat_cmp (keys_of ranking)
    → ((cost : ℕ) → before_or_among cost ranking (fits (drop k asked)) ≡ at_cost cost (fits asked)) → IsRanking (fits asked) ranking
is_ranking asked k ranking past sorted same =
    let none : drop k asked ≡ [] = grind (arith, common_steps) in
    let all : (cost : ℕ) → before_or_among cost ranking [] ≡ at_cost cost (fits asked) =
    subst (λ rest. (cost : ℕ) → before_or_among cost ranking (fits rest) ≡ at_cost cost (fits asked)) none same in
    record {
      rising = IsStrictlyIncreasing-from_sorted (keys_of ranking) sorted;
      earliest = λ cost. sym (same_lookup cost ranking) ∙ sym (or_none (at_cost cost ranking)) ∙ all cost ∙ same_lookup cost (fits asked);
    }

pub some_selected : (population : List ConfigValue) (ranking : List (ℕ × ConfigValue)) → 0 < length ranking → take 4 (values_of ranking) ≡ selected population (values_of ranking)
some_selected population [] some = absurd (omega (arith, some))
some_selected population (r ∷ ranking) some = refl
