-- What generations keep.
use Rattle.std.proofs.Common.{◌≡◌, ℕ, ◌<◌, ◌≤◌, true, nat_le, List, [], ◌∷◌, ◌++◌, length, map, Option, Some, refl, sym, subst, ◌∙◌, arith}
use Rattle.std.specs.List.{AllByRecursion, slice_index_or}
use Rattle.std.specs.Map.{keys_of, values_of}
use Rattle.std.specs.Ordering.{nat_cmp}
use Rattle.std.specs.Prelude.{IfSome, nat_eq}
use Rattle.std.proofs.lemmas.Bool.{and_parts, le-leb, leb-true}
use Rattle.std.proofs.lemmas.Cmp.{eq_by_cmp_equiv, nat_cmp_total}
use Rattle.std.proofs.lemmas.List.Elements.{All-from_recursion, recursion_from_All, All-map}
use Rattle.std.proofs.lemmas.Map.Entries.{All-lookup, lookup_from_place}
use Rattle.std.proofs.lemmas.Map.Keys.{IsDistinct-from_sorted, sorted_from_strictly_increasing}
use Rattle.std.proofs.lemmas.Option.{slice_get-get_or}
use Rattle.pb_program.specs.Trees.{ProgTransform}
use Rattle.pb_program.specs.Configs.{ConfigValue, EntryValue, SiteValue, IsSite, IsValid, is_cutoff}
use Rattle.pb_tuner.specs.Tuned.{After, IsNext, IsRanking, fits, selected}
use Rattle.pb_tuner.specs.Tuned.After.{start, generation}
use Rattle.pb_tuner.specs.declared.journal.Asked.{Asked}
use Rattle.pb_tuner.proofs.SelectionLemmas.{at_cost, same_lookup}
use Rattle.pb_tuner.proofs.ValidLemmas.{all_take, candidates_valid, fits_all}

pub at_most : (size : ℕ) → is_cutoff size ≡ true → size ≤ 1048576
at_most size cutoff = leb-true size 1048576 (and_parts (nat_le 1 size) (nat_le size 1048576) cutoff).1

pub is_size : (size : ℕ) → 1 ≤ size → size ≤ 1048576 → is_cutoff size ≡ true
is_size size low high = rw (le-leb 1 size low, le-leb size 1048576 high) refl

-- what is ranked is fit
if_some_at : {A : Type 0} (P : A → Type 0) (o : Option A) (x : A) → o ≡ Some x → IfSome o P → P x
if_some_at P o x is holds = subst (λ q. IfSome q P) is holds

ranked_all : (P : ConfigValue → Type 0) (all ranking : List (ℕ × ConfigValue)) → IsRanking all ranking → AllByRecursion (λ f. P f.1) all → AllByRecursion P (values_of ranking)
ranked_all P all ranking is each =
    recursion_from_All P (values_of ranking) (All-map P (λ r. r.1) ranking (λ k d within.
    let r : ℕ × ConfigValue = slice_index_or ranking k d in
    let distinct = IsDistinct-from_sorted nat_cmp (keys_of ranking) (sorted_from_strictly_increasing (keys_of ranking) is.rising) in
    let found : at_cost r.0 ranking ≡ Some r.1 = lookup_from_place (eq_by_cmp_equiv nat_cmp_total) ranking k r.0 r.1 distinct (slice_get-get_or ranking k d within) in
    if_some_at P _ _ (sym (is.earliest r.0) ∙ sym (same_lookup r.0 ranking) ∙ found) (All-lookup P (nat_eq r.0) all (All-from_recursion (λ f. P f.1) all each))))

selected_all : (P : ConfigValue → Type 0) (population cs : List ConfigValue) → AllByRecursion P population → AllByRecursion P cs → AllByRecursion P (selected population cs)
selected_all P population [] all more = all
selected_all P population (c ∷ cs) all more = all_take P 4 (c ∷ cs) more

next_all : (P : ConfigValue → Type 0) (population next : List ConfigValue) (asked : List Asked) → IsNext population asked next → AllByRecursion P population
    → AllByRecursion P (map (λ a. a.config) asked) → AllByRecursion P next
next_all P population next asked is all those =
    subst (AllByRecursion P) (sym is.kept) (selected_all P population (values_of is.ranking) all (ranked_all P (fits asked) is.ranking is.ranked (fits_all P asked those)))

some_selected : (population cs : List ConfigValue) → 0 < length population → 0 < length (selected population cs)
some_selected population [] some = some
some_selected population (c ∷ cs) some = omega arith

module _ (sites : List SiteValue) (up_to : ℕ) where
  pub begins : (before population : List ConfigValue) (journal : List Asked) (entries : List EntryValue) → before ≡ [] → entries ≡ [] → journal ≡ []
      → population ≡ before ++ record { entries = entries } ∷ [] → After sites up_to 1 population journal
  begins before population journal entries no_start no_entries no_journal is = rw (is, no_start, no_entries, no_journal) start

  pub at_least : {size : ℕ} {population : List ConfigValue} {before : List Asked} → After sites up_to size population before → 1 ≤ size
  at_least start = omega arith
  at_least (generation after within those is) = omega (arith, at_least after)

  pub some_member : {size : ℕ} {population : List ConfigValue} {before : List Asked} → After sites up_to size population before → 0 < length population
  some_member start = omega arith
  some_member (generation {population = population} after within those is) =
      subst (λ next. 0 < length next) (sym is.kept) (some_selected population (values_of is.ranking) (some_member after))

  module _ (p : List ProgTransform) (few : up_to ≤ 1048576) (are : AllByRecursion (IsSite p) sites) where
    pub members_valid : {size : ℕ} {population : List ConfigValue} {before : List Asked} → After sites up_to size population before → AllByRecursion (IsValid p) population
    members_valid start = (record { entries = tt; distinct = tt }, tt)
    members_valid (generation {size} {population} {next} {before} {asked} after within those is) =
        let valid = members_valid after in
        let all = candidates_valid p size (is_size size (at_least after) (omega arith)) sites population are valid in
        next_all (IsValid p) population next asked is valid (subst (AllByRecursion (IsValid p)) (sym those.those) all)
