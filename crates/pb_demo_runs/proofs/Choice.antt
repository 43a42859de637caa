-- Which rule the configuration of the product chooses, where rows are halved: at sizes (n, h, n).
use Rattle.std.proofs.Common.{◌≡◌, ◌∙◌, refl, sym, ap, subst, inl, inr, ◌⊎◌, ℕ, ◌/◌, ◌≤◌, ◌<◌, nat_lt, Bool, true, false, ◌&&◌, ◌||◌, not, List, [], ◌∷◌, filter, slice_get, Option, Some, Ok, ℤ, pos, ◌≤ℤ◌, ◌<ℤ◌, arith}
use Rattle.std.specs.Prelude.{nat_le, int_le, int_lt, if◌then◌else◌}
use Rattle.std.specs.List.{AllByRecursion, Contains, list_all, list_any, range_with_len}
use Rattle.std.specs.Option.{option_map_or}
use Rattle.std.proofs.lemmas.Int.{ints}
use Rattle.std.proofs.lemmas.Bool.{cases_lt}
use Rattle.std.proofs.lemmas.Bool.Decides.{nat_tests}
use Rattle.pb_base.proofs.ListLemmas.{in_filter, in_range}
use Rattle.pb_linear.specs.Numbers.{value_before}
use Rattle.pb_config.specs.Choices.{levels_of, rules_next}
use Rattle.pb_config.specs.Reading.{config_read}
use Rattle.pb_program.specs.Areas.{Area}
use Rattle.pb_program.specs.Conditions.{Applies}
use Rattle.pb_program.specs.Configs.{ConfigValue, chosen}
use Rattle.pb_program.specs.Trees.{ProgRule}
use Rattle.pb_model.specs.Cells.{Cell}
use Rattle.pb_model.specs.Chosen.{chosen_rule, instance_size}
use Rattle.pb_model.specs.Lawful.{can_make, comes_first, has, is_lawful, lawful, output_holds}
use Rattle.pb_model.proofs.LawfulLemmas.{can_test}
use Rattle.pb_grammar.specs.Want.{after_mark, expression, conjunction, compared, total, product, name_token, dimensions}
use Rattle.pb_demo.specs.Demonstrations.{demo_config}
use Rattle.pb_demo.proofs.Product.{written}
use Rattle.pb_demo.proofs.Trees.{program}
use Rattle.pb_demo_runs.proofs.Lists.{both_true}
use Rattle.pb_demo_runs.proofs.Roll.{rule_or}

-- ---- the configuration
abbrev pub the_config : ConfigValue
the_config = record { entries = record { site = record { transform = 1; matrix = 2; set = 0 ∷ 1 ∷ 2 ∷ 3 ∷ [] }; selector = record { first = 0; levels = (32, 3) ∷ [] } } ∷ [] }

reads_as : config_read (program 0) (demo_config 0) ≡ Ok the_config
unfolding after_mark expression conjunction compared total product name_token dimensions rules_next levels_of
reads_as = refl

pub is_the_config : (config : ConfigValue) → config_read (program 0) (demo_config 0) ≡ Ok config → the_config ≡ config
is_the_config config said = let both : Ok the_config ≡ Ok config = sym reads_as ∙ said in cc

-- what it chooses of rule 0 and some others
abbrev kept : Bool → Bool → Bool → List ℕ
kept a b c = 0 ∷ (if a then 1 ∷ (if b then 2 ∷ (if c then 3 ∷ [] else []) else if c then 3 ∷ [] else []) else if b then 2 ∷ (if c then 3 ∷ [] else []) else if c then 3 ∷ [] else [])

kept_is : (p : ℕ → Bool) (a b c : Bool) → p 0 ≡ true → p 1 ≡ a → p 2 ≡ b → p 3 ≡ c → filter p (0 ∷ 1 ∷ 2 ∷ 3 ∷ []) ≡ kept a b c
kept_is p a b c e f g h = rw (e, f, g, h) refl

abbrev of_kept : Bool → Bool → Bool → ℕ → ℕ
of_kept a b c size = chosen the_config (record { transform = 1; matrix = 2; set = kept a b c }) size

all_kept : (size : ℕ) (b : Bool) → nat_le 32 size ≡ b → of_kept true true true size ≡ (if b then 3 else 0)
all_kept size true e = rw e refl
all_kept size false e = rw e refl

few_kept : (a b c : Bool) (size : ℕ) → nat_le 32 size ≡ false → of_kept a b c size ≡ 0
few_kept true true true size e = all_kept size false e
few_kept true true false size e = refl
few_kept true false true size e = refl
few_kept true false false size e = refl
few_kept false true true size e = refl
few_kept false true false size e = refl
few_kept false false true size e = refl
few_kept false false false size e = refl

no_third : (a b : Bool) (size : ℕ) → of_kept a b false size ≡ 0
no_third true true size = refl
no_third true false size = refl
no_third false true size = refl
no_third false false size = refl

-- ---- the lawful rules
abbrev pub nth_rule : ℕ → ProgRule
nth_rule k = rule_or (slice_get written.rules k)

or_last : (b : Bool) → (not b || nat_le 0 0) ≡ true
or_last true = refl
or_last false = refl

and_true : (a b : Bool) → b ≡ true → (a && b) ≡ a
and_true true b e = e
and_true false b e = refl

all_least : (f : ProgRule → Bool) (rs : List ProgRule) → AllByRecursion (λ r. r.priority ≡ 0) rs → list_all (λ other. not (f other) || nat_le 0 other.priority) rs ≡ true
all_least f [] h = refl
all_least f (r ∷ rs) h = both_true _ _ (ap (λ (n : ℕ). not (f r) || nat_le 0 n) h.0 ∙ or_last (f r)) (all_least f rs h.1)

module _ (sizes : List ℕ) (c : Cell) where
  is_can : (k : ℕ) (r : ProgRule) → slice_get written.rules k ≡ Some r → r.priority ≡ 0 → is_lawful written sizes c k ≡ can_make written.matrices sizes c r
  is_can k r at e =
      ap (λ (o : Option ProgRule). option_map_or (comes_first written.matrices sizes c written.rules) o false) at
      ∙ ap (λ (n : ℕ). can_make written.matrices sizes c r && list_all (λ other. not (can_make written.matrices sizes c other) || nat_le n other.priority) written.rules) e
      ∙ and_true _ _ (all_least (can_make written.matrices sizes c) written.rules (refl, (refl, (refl, (refl, tt)))))

  lawful_is : (a b d : Bool) → can_make written.matrices sizes c (nth_rule 0) ≡ true → can_make written.matrices sizes c (nth_rule 1) ≡ a → can_make written.matrices sizes c (nth_rule 2) ≡ b
      → can_make written.matrices sizes c (nth_rule 3) ≡ d → lawful written sizes c ≡ kept a b d
  unfolding lawful
  lawful_is a b d e f g h =
      kept_is (is_lawful written sizes c) a b d (is_can 0 (nth_rule 0) refl refl ∙ e) (is_can 1 (nth_rule 1) refl refl ∙ f) (is_can 2 (nth_rule 2) refl refl ∙ g) (is_can 3 (nth_rule 3) refl refl ∙ h)

-- ---- where rules can make a cell
inside : (a : Area) (x y : ℤ) → a.x.low ≤ℤ x → x <ℤ a.x.high → a.y.low ≤ℤ y → y <ℤ a.y.high → has a x y ≡ true
inside a x y l r d u =
    both_true (int_le a.x.low x && int_lt x a.x.high) (int_le a.y.low y && int_lt y a.y.high)
    (both_true (int_le a.x.low x) (int_lt x a.x.high) (grind (arith, ints, l)) (grind (arith, ints, r)))
    (both_true (int_le a.y.low y) (int_lt y a.y.high) (grind (arith, ints, d)) (grind (arith, ints, u)))

first_of : (a b : Bool) → a ≡ true → (a || (b || false)) ≡ true
first_of a b e = rw e refl

second_of : (a b : Bool) → b ≡ true → (a || (b || false)) ≡ true
second_of true b e = refl
second_of false b e = rw e refl

never_true : (b : Bool) → (b ≡ true → ⊥) → b ≡ false
never_true true never = absurd (never refl)
never_true false _ = refl

module _ (n h x y : ℕ) (across : x < n) (down : y < h) where
  abbrev sizes : List ℕ
  sizes = n ∷ h ∷ n ∷ []

  abbrev cell : Cell
  cell = record { matrix = 2; x = x; y = y }

  zeroth_applies : Applies written.matrices (nth_rule 0) sizes (pos x) (pos y)
  unfolding value_before
  zeroth_applies = grind (arith, ints, across, down)

  zeroth : can_make written.matrices sizes cell (nth_rule 0) ≡ true
  zeroth = (can_test written.matrices sizes cell (nth_rule 0)).1 (record { writes = refl; applies = zeroth_applies })

  module _ (wide : 2 ≤ n) where
    first_applies : Applies written.matrices (nth_rule 1) sizes (pos x) (pos y)
    unfolding value_before
    first_applies =
        grind (arith, ints, wide)

    first : can_make written.matrices sizes cell (nth_rule 1) ≡ true
    unfolding value_before
    first = (can_test written.matrices sizes cell (nth_rule 1)).1 (record {
      writes = grind (arith, ints, across, down);
      applies = first_applies;
    })

    second_applies : Applies written.matrices (nth_rule 2) sizes (pos x) (pos y)
    unfolding value_before
    second_applies =
        grind (arith, ints, wide)

    second_writes : (x < n / 2) ⊎ (n / 2 ≤ x) → list_any (output_holds written.matrices sizes cell) (nth_rule 2).outs ≡ true
    unfolding value_before
    second_writes (inl left) = first_of _ _ (grind (arith, ints, left, down))
    second_writes (inr right) = second_of _ _ (grind (arith, ints, across, right, down))

    second : can_make written.matrices sizes cell (nth_rule 2) ≡ true
    second = (can_test written.matrices sizes cell (nth_rule 2)).1 (record { writes = second_writes (cases_lt x (n / 2)); applies = second_applies })

  third_applies : 2 ≤ h → Applies written.matrices (nth_rule 3) sizes (pos x) (pos y)
  unfolding value_before
  third_applies tall =
      grind (arith, ints, tall)

  third_writes : (y < h / 2) ⊎ (h / 2 ≤ y) → list_any (output_holds written.matrices sizes cell) (nth_rule 3).outs ≡ true
  unfolding value_before
  third_writes (inl up) = first_of _ _ (grind (arith, ints, across, up))
  third_writes (inr low) = second_of _ _ (grind (arith, ints, across, low, down))

  third : 2 ≤ h → can_make written.matrices sizes cell (nth_rule 3) ≡ true
  third tall = (can_test written.matrices sizes cell (nth_rule 3)).1 (record { writes = third_writes (cases_lt y (h / 2)); applies = third_applies tall })

  too_low : h < 2 → Applies written.matrices (nth_rule 3) sizes (pos x) (pos y) → ⊥
  unfolding value_before
  too_low low a = let written_one = a.1.1.1.1.1.1.1.1.1.1.1.1.1.1.1.1.1.1.1.1.1.1.1.1.0 in omega (arith, ints, low, written_one)

  not_third : h < 2 → can_make written.matrices sizes cell (nth_rule 3) ≡ false
  not_third low = never_true _ (λ e. too_low low ((can_test written.matrices sizes cell (nth_rule 3)).0 e).applies)

-- ---- what is chosen
abbrev pub picks : ℕ → ℕ → ℕ
picks n h = if nat_lt n 32 then 0 else if nat_lt h 2 then 0 else 3

pub small_picks : (n h : ℕ) → n < 32 → picks n h ≡ 0
small_picks n h small = let e : nat_lt n 32 ≡ true = grind (arith, nat_tests, small) in rw e refl

pub low_picks : (n h : ℕ) → h < 2 → picks n h ≡ 0
low_picks n h low = by (nat_lt n 32) refl
  where
    flat : nat_lt h 2 ≡ true
    flat = grind (arith, nat_tests, low)

    by : (b : Bool) → nat_lt n 32 ≡ b → picks n h ≡ 0
    by true e = rw e refl
    by false e = rw (e, flat) refl

pub high_picks : (n h : ℕ) → 32 ≤ n → 2 ≤ h → picks n h ≡ 3
high_picks n h large tall =
    let e : nat_lt n 32 ≡ false = grind (arith, nat_tests, large) in
    let f : nat_lt h 2 ≡ false = grind (arith, nat_tests, tall) in
    rw (e, f) refl

module _ (config : ConfigValue) (said : config_read (program 0) (demo_config 0) ≡ Ok config) (n h : ℕ) (low : h ≤ n) (x y : ℕ) (across : x < n) (down : y < h) where
  abbrev of_set : List ℕ → ℕ
  of_set set = chosen the_config (record { transform = 1; matrix = 2; set = set }) n

  size_is : instance_size (n ∷ h ∷ n ∷ []) ≡ n
  size_is = omega (arith, low)

  by_kept : (a b d : Bool) → lawful written (n ∷ h ∷ n ∷ []) (cell n h x y across down) ≡ kept a b d
      → chosen_rule config 1 written (n ∷ h ∷ n ∷ []) (record { matrix = 2; x = x; y = y }) ≡ of_kept a b d n
  unfolding chosen_rule
  by_kept a b d e =
      subst (λ c. chosen c (record { transform = 1; matrix = 2; set = lawful written (n ∷ h ∷ n ∷ []) (cell n h x y across down) }) (instance_size (n ∷ h ∷ n ∷ [])) ≡ of_kept a b d n) (is_the_config config said)
      (ap (λ (size : ℕ). chosen the_config (record { transform = 1; matrix = 2; set = lawful written (n ∷ h ∷ n ∷ []) (cell n h x y across down) }) size) size_is ∙ ap of_set e)

  all_lawful : (a b d : Bool) → can_make written.matrices (n ∷ h ∷ n ∷ []) (cell n h x y across down) (nth_rule 1) ≡ a → can_make written.matrices (n ∷ h ∷ n ∷ []) (cell n h x y across down) (nth_rule 2) ≡ b
      → can_make written.matrices (n ∷ h ∷ n ∷ []) (cell n h x y across down) (nth_rule 3) ≡ d → lawful written (n ∷ h ∷ n ∷ []) (cell n h x y across down) ≡ kept a b d
  all_lawful a b d e f g = lawful_is (n ∷ h ∷ n ∷ []) (cell n h x y across down) a b d (zeroth n h x y across down) e f g

  by_size : (small flat : Bool) → nat_lt n 32 ≡ small → nat_lt h 2 ≡ flat → chosen_rule config 1 written (n ∷ h ∷ n ∷ []) (record { matrix = 2; x = x; y = y }) ≡ (if small then 0 else if flat then 0 else 3)
  by_size true flat e f = by_kept _ _ _ (all_lawful _ _ _ refl refl refl) ∙ few_kept _ _ _ n (grind (arith, nat_tests, e))
  by_size false true e f = by_kept _ _ false (all_lawful _ _ false refl refl (not_third n h x y across down (grind (arith, nat_tests, f)))) ∙ no_third _ _ n
  by_size false false e f =
      let wide : 2 ≤ n = grind (arith, nat_tests, e) in
      let tall : 2 ≤ h = grind (arith, nat_tests, f) in
      by_kept true true true (all_lawful true true true (first n h x y across down wide) (second n h x y across down wide) (third n h x y across down tall)) ∙ all_kept n true (grind (arith, nat_tests, e))

  pub chosen_is : chosen_rule config 1 written (n ∷ h ∷ n ∷ []) (record { matrix = 2; x = x; y = y }) ≡ picks n h
  chosen_is = by_size (nat_lt n 32) (nat_lt h 2) refl refl

-- the plan that halves columns may make each cell of a matrix of two columns
pub columns_lawful : (n h x y : ℕ) → x < n → y < h → 2 ≤ n → Contains (lawful written (n ∷ h ∷ n ∷ []) (record { matrix = 2; x = x; y = y })) 2
unfolding lawful
columns_lawful n h x y across down wide =
    in_filter (is_lawful written (n ∷ h ∷ n ∷ []) (cell n h x y across down)) (range_with_len 0 4) 2 (in_range 4 2 (omega arith))
    (is_can (n ∷ h ∷ n ∷ []) (cell n h x y across down) 2 (nth_rule 2) refl refl ∙ second n h x y across down wide)
