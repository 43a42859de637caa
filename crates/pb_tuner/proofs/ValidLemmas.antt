-- Candidates and populations are valid.
use Rattle.std.proofs.Common.{◌≡◌, ℕ, Bool, true, false, if◌then◌else◌, List, [], ◌∷◌, ◌++◌, map, take, Option, Some, None, refl}
use Rattle.std.specs.List.{AllByRecursion, cons_option, filter_map, flat_map}
use Rattle.std.specs.Option.{option_map}
use Rattle.std.specs.Prelude.{IfSome}
use Rattle.std.proofs.lemmas.Bool.{eq-eqb, or_right}
use Rattle.std.proofs.lemmas.List.Elements.{All-from_recursion, All-take, recursion_from_All}
use Rattle.pb_program.specs.Trees.{ProgTransform}
use Rattle.pb_program.specs.Configs.{ConfigValue, SelectorValue, SiteValue, IsSite, IsValid, is_cutoff, is_in}
use Rattle.pb_config.specs.Extension.{extended, is_nothing_new, selector_at, with_level, with_selector}
use Rattle.pb_config.proofs.ExtensionLemmas.{stays_valid}
use Rattle.pb_tuner.specs.Tuned.{candidates, extensions, fits, price}
use Rattle.pb_tuner.specs.declared.journal.Asked.{Asked}
use Rattle.pb_tuner.specs.declared.judge.Cost.{Cost}
use Rattle.pb_tuner.specs.declared.judge.Cost.TheVariants.{Fit, Unfit, Failed}

-- what holds of each element
module _ {X : Type 0} (P : X → Type 0) where
  pub all_append : (xs ys : List X) → AllByRecursion P xs → AllByRecursion P ys → AllByRecursion P (xs ++ ys)
  all_append [] ys all more = more
  all_append (x ∷ xs) ys all more = (all.0, all_append xs ys all.1 more)

  pub all_take : (n : ℕ) (xs : List X) → AllByRecursion P xs → AllByRecursion P (take n xs)
  all_take n xs all = recursion_from_All P (take n xs) (All-take P n xs (All-from_recursion P xs all))

  all_flat_map : {Y : Type 0} (Q : Y → Type 0) (f : Y → List X) → ((y : Y) → Q y → AllByRecursion P (f y)) → (ys : List Y) → AllByRecursion Q ys → AllByRecursion P (flat_map f ys)
  all_flat_map Q f of_one [] all = tt
  all_flat_map Q f of_one (y ∷ ys) all = all_append (f y) (flat_map f ys) (of_one y all.0) (all_flat_map Q f of_one ys all.1)

  all_filter_map : {Y : Type 0} (h : Y → Option X) (ys : List Y) → AllByRecursion (λ y. IfSome (h y) P) ys → AllByRecursion P (filter_map h ys)
  all_filter_map h [] all = tt
  all_filter_map h (y ∷ ys) all = by (h y) all.0 (all_filter_map h ys all.1)
    where
      by : (o : Option X) → IfSome o P → AllByRecursion P (filter_map h ys) → AllByRecursion P (cons_option o (filter_map h ys))
      by None here rest = rest
      by (Some x) here rest = (here, rest)

-- each rule of a set is in it
rules_in : (set rules : List ℕ) → ((r : ℕ) → is_in rules r ≡ true → is_in set r ≡ true) → AllByRecursion (λ r. is_in set r ≡ true) rules
rules_in set [] among = tt
rules_in set (r ∷ rules) among = (among r (rw (eq-eqb r r refl) refl), rules_in set rules (λ q there. among q (or_right _ _ there)))

pub all_weaker : {X : Type 0} (P Q : X → Type 0) → ((x : X) → P x → Q x) → (xs : List X) → AllByRecursion P xs → AllByRecursion Q xs
all_weaker P Q weaker [] all = tt
all_weaker P Q weaker (x ∷ xs) all = (weaker x all.0, all_weaker P Q weaker xs all.1)

module _ (p : List ProgTransform) (size : ℕ) (cutoff : is_cutoff size ≡ true) where
  extended_valid : (c : ConfigValue) (site : SiteValue) (rule : ℕ) → IsValid p c → IsSite p site → is_in site.set rule ≡ true → IfSome (extended c site size rule) (IsValid p)
  extended_valid c site rule valid is there = by (is_nothing_new (selector_at c site) size rule) refl
    where
      by : (b : Bool) → is_nothing_new (selector_at c site) size rule ≡ b
          → IfSome (if b then None else Some (with_selector c site (with_level size rule (selector_at c site)))) (IsValid p)
      by true told = tt
      by false new =
          let s : SelectorValue = selector_at c site in
          stays_valid c site size rule s.first s.levels (s.levels ++ (size, rule) ∷ []) s _ refl refl new refl refl there cutoff p valid is

  pub candidates_valid : (sites : List SiteValue) (population : List ConfigValue) → AllByRecursion (IsSite p) sites → AllByRecursion (IsValid p) population
      → AllByRecursion (IsValid p) (candidates sites size population)
  candidates_valid sites population are valid =
      all_append (IsValid p) population _ valid
      (all_flat_map (IsValid p) (IsValid p) _
      (λ c of_c. all_flat_map (IsValid p) (IsSite p) (extensions size c)
      (λ site is. all_filter_map (IsValid p) (extended c site size) site.set
      (all_weaker _ _ (λ rule there. extended_valid c site rule of_c is there) site.set (rules_in site.set site.set (λ r there. there))))
      sites are) population valid)

-- fit candidates are candidates
pub fits_all : (P : ConfigValue → Type 0) (asked : List Asked) → AllByRecursion P (map (λ a. a.config) asked) → AllByRecursion (λ f. P f.1) (fits asked)
fits_all P asked all = all_filter_map (λ f. P f.1) _ asked (each asked all)
  where
    by : (a : Asked) (cost : Cost) → P a.config → IfSome {T = ℕ × ConfigValue} (option_map (λ n. (n, a.config)) (price cost)) (λ f. P f.1)
    by a (Fit n) here = here
    by a Unfit here = tt
    by a Failed here = tt

    each : (xs : List Asked) → AllByRecursion P (map (λ a. a.config) xs) → AllByRecursion (λ a. IfSome {T = ℕ × ConfigValue} (option_map (λ cost. (cost, a.config)) (price a.cost)) (λ f. P f.1)) xs
    each [] all = tt
    each (a ∷ xs) all = (by a a.cost all.0, each xs all.1)
