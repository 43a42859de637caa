-- The rules that may make a segment's cells are those of its rules that meet their conditions, of least priority.
use Rattle.std.proofs.Common.{◌≡◌, ◌∙◌, refl, sym, ap, subst, inl, inr, ℕ, ℤ, pos, ◌<◌, ◌≤◌, ◌≤ℤ◌, Bool, true, false, ◌&&◌, ◌||◌, not, List, [], ◌∷◌, length, slice_get, Option, Some, None, arith}
use Rattle.std.specs.Prelude.{◌==◌, filter, int_le, nat_le, ◌+ℤ◌, ◌-ℤ◌, ◌*ℤ◌}
use Rattle.std.specs.Ordering.{int_eq}
use Rattle.std.specs.List.{AllByRecursion, Contains, list_all, range_with_len}
use Rattle.std.specs.Option.{option_map_or}
use Rattle.std.proofs.Math.Bool.{cond}
use Rattle.std.proofs.lemmas.Bool.{and_parts, eq-eqb, eqb-true}
use Rattle.std.proofs.lemmas.Bool.Decides.{Decides-int_eq, nat_tests}
use Rattle.std.proofs.lemmas.Option.{slice_get_within}
use Rattle.std.proofs.lemmas.Int.{ints}
use Rattle.pb_linear.specs.Numbers.{exact_value}
use Rattle.pb_program.specs.Conditions.{Condition, Holds, conditions}
use Rattle.pb_program.specs.Configs.{is_in}
use Rattle.pb_program.specs.Trees.{ProgRule, ProgTransform}
use Rattle.pb_region.specs.Boxes.{is_zero}
use Rattle.pb_region.specs.Gaps.{gap}
use Rattle.pb_region.specs.Inside.{is_guarding}
use Rattle.pb_region.proofs.InsideLemmas.{zero_is}
use Rattle.pb_model.specs.Cells.{Cell}
use Rattle.pb_model.specs.Lawful.{CanMake, IsLawful, is_lawful, lawful}
use Rattle.pb_model.proofs.LawfulLemmas.{in_lawful, lawful_in}
use Rattle.pb_base.proofs.ListLemmas.{all_each, each_all, filter_in, in_filter, in_head, in_tail, in_range, in_cases, in_none}
use Rattle.pb_check.specs.Cuts.{AreNodes}
use Rattle.pb_check.specs.Orders.{AnalysisValue}
use Rattle.pb_check.specs.Ranked.{IsIn, IsMadeCell}
use Rattle.pb_check.specs.Sites.{is_least, least_of, priority}
use Rattle.pb_check.proofs.CoverLemmas.{has_lawful}
use Rattle.pb_check.proofs.LawfulLemmas.{both, le_true}
use Rattle.pb_check.proofs.RankedLemmas.{among_can, are, lawful_among}
use Rattle.pb_calls.proofs.SameLemmas.{same_filter, same_test, some_member}
use Rattle.pb_frame.specs.Choices.{IsInstance, able_of, is_met, met_of, meets, meets_at}

-- ---- a condition in which no rule variable plays a part is true everywhere or nowhere
both_free : (a b l : Bool) → a ≡ true → b ≡ true → (not (a && b) || l) ≡ true → l ≡ true
both_free true true l ea eb h = h
both_free true false l ea eb h = cc
both_free false b l ea eb h = cc

if_free : (a b l : Bool) → (a ≡ true → b ≡ true → l ≡ true) → (not (a && b) || l) ≡ true
if_free true true l f = f refl refl
if_free true false l f = refl
if_free false b l f = refl

module _ (sizes : List ℕ) (x y : ℤ) where
  met_holds : (c : Condition) → is_met sizes c ≡ true → is_guarding c ≡ true → Holds sizes x y c
  unfolding gap
  met_holds c h free =
      let parts = and_parts (is_zero (c.left.x -ℤ c.right.x)) (is_zero (c.left.y -ℤ c.right.y)) free in
      let same_x : c.left.x ≡ c.right.x = omega (arith, ints, zero_is (c.left.x -ℤ c.right.x) parts.0) in
      let same_y : c.left.y ≡ c.right.y = omega (arith, ints, zero_is (c.left.y -ℤ c.right.y) parts.1) in
      let least : (exact_value c.left.rest sizes +ℤ pos c.more) ≤ℤ exact_value c.right.rest sizes =
      (le_true (exact_value c.left.rest sizes +ℤ pos c.more) (exact_value c.right.rest sizes)).0 (both_free (int_eq c.left.x c.right.x) (int_eq c.left.y c.right.y) (int_le (exact_value c.left.rest sizes +ℤ pos c.more) (exact_value c.right.rest sizes))
      ((Decides-int_eq c.left.x c.right.x).1 same_x) ((Decides-int_eq c.left.y c.right.y).1 same_y) h) in
      omega (arith, ints, least, ap (λ k. k *ℤ x) same_x, ap (λ k. k *ℤ y) same_y)

  holds_met : (c : Condition) → Holds sizes x y c → is_met sizes c ≡ true
  holds_met c h = if_free (int_eq c.left.x c.right.x) (int_eq c.left.y c.right.y) (int_le (exact_value c.left.rest sizes +ℤ pos c.more) (exact_value c.right.rest sizes)) (λ ex ey.
      let same_x : c.left.x ≡ c.right.x = (Decides-int_eq c.left.x c.right.x).0 ex in
      let same_y : c.left.y ≡ c.right.y = (Decides-int_eq c.left.y c.right.y).0 ey in
      (le_true (exact_value c.left.rest sizes +ℤ pos c.more) (exact_value c.right.rest sizes)).1 (omega (arith, ints, h, ap (λ k. k *ℤ x) same_x, ap (λ k. k *ℤ y) same_y)))

  guards_of : (cs : List Condition) → list_all (is_met sizes) cs ≡ true → AllByRecursion (Holds sizes x y) (filter is_guarding cs)
  guards_of [] h = tt
  guards_of (c ∷ cs) h = let parts = and_parts (is_met sizes c) (list_all (is_met sizes) cs) h in by (is_guarding c) refl parts.0 (guards_of cs parts.1)
    where
      by : (b : Bool) → is_guarding c ≡ b → is_met sizes c ≡ true → AllByRecursion (Holds sizes x y) (filter is_guarding cs) → AllByRecursion (Holds sizes x y) (cond b (c ∷ filter is_guarding cs) (filter is_guarding cs))
      by true free here later = (met_holds c here free, later)
      by false free here later = later

  meets_of : (cs : List Condition) → AllByRecursion (Holds sizes x y) cs → list_all (is_met sizes) cs ≡ true
  meets_of [] h = refl
  meets_of (c ∷ cs) h = both (is_met sizes c) (list_all (is_met sizes) cs) (holds_met c h.0) (meets_of cs h.1)

-- ---- rules by number
pub met_there : (t : ProgTransform) (sizes : List ℕ) (k : ℕ) (r : ProgRule) → slice_get t.rules k ≡ Some r → meets t.matrices sizes r ≡ meets_at t sizes k
met_there t sizes k r e = sym (ap (λ o. option_map_or (meets t.matrices sizes) o false) e)

is_in_contains : (set : List ℕ) (k : ℕ) → is_in set k ≡ true → Contains set k
is_in_contains [] k h = cc
is_in_contains (s ∷ set) k h = by (s == k) refl h (is_in_contains set k)
  where
    by : (b : Bool) → (s == k) ≡ b → (b || is_in set k) ≡ true → (is_in set k ≡ true → Contains set k) → Contains (s ∷ set) k
    by true e h rest = subst (Contains (s ∷ set)) (eqb-true s k e) (in_head s set)
    by false e h rest = in_tail s k set (rest h)

contains_is_in : (set : List ℕ) (k : ℕ) → Contains set k → is_in set k ≡ true
contains_is_in [] k h = absurd (in_none k h)
contains_is_in (s ∷ set) k h = elim (in_cases s k set h) [
  | inl here ↦ ap (λ b. b || is_in set k) (eq-eqb s k here)
  | inr later ↦ by (s == k) (contains_is_in set k later)
]
  where
    by : (b : Bool) → is_in set k ≡ true → (b || is_in set k) ≡ true
    by true h = refl
    by false h = h

at_rule : {A : Type 0} (test : A → Bool) (o : Option A) → option_map_or test o false ≡ true → (r : A) × (o ≡ Some r) × (test r ≡ true)
at_rule test None h = cc
at_rule test (Some r) h = (r, refl, h)

module _ {A : Type 0} (p q : A → Bool) where
  filter_both : (xs : List A) → filter p (filter q xs) ≡ filter (λ x. q x && p x) xs
  filter_both [] = refl
  filter_both (x ∷ xs) = by (q x) (filter_both xs)
    where
      kept : (b : Bool) → filter p (filter q xs) ≡ filter (λ x. q x && p x) xs → cond b (x ∷ filter p (filter q xs)) (filter p (filter q xs)) ≡ cond b (x ∷ filter (λ x. q x && p x) xs) (filter (λ x. q x && p x) xs)
      kept true e = ap (λ l. x ∷ l) e
      kept false e = e

      by : (a : Bool) → filter p (filter q xs) ≡ filter (λ x. q x && p x) xs → filter p (cond a (x ∷ filter q xs) (filter q xs)) ≡ cond (a && p x) (x ∷ filter (λ x. q x && p x) xs) (filter (λ x. q x && p x) xs)
      by true e = kept (p x) e
      by false e = e

module _ (number : ℕ) (t : ProgTransform) (a : AnalysisValue) (sizes : List ℕ) (i : IsInstance number t a sizes) (c : Cell) (made : IsMadeCell t sizes c) (u : ℕ) (h : IsIn a.nodes sizes c u) where
  abbrev rules : List ℕ
  rules = h.node.rules

  abbrev nodes_are : AreNodes t a.nodes
  nodes_are = are i.program number t sizes i.well_formed i.sound i.there a i.found

  -- a rule is able
  abbrev is_able : ℕ → Bool
  is_able k = meets_at t sizes k && is_in rules k

  able_can : (k : ℕ) → is_able k ≡ true → (r : ProgRule) × (slice_get t.rules k ≡ Some r) × CanMake t.matrices sizes c r
  unfolding meets
  able_can k e =
      let parts = and_parts (meets_at t sizes k) (is_in rules k) e in
      let rule = at_rule (meets t.matrices sizes) (slice_get t.rules k) parts.0 in
      (rule.0, rule.1, among_can i.program number t sizes i.well_formed i.sound i.there c made.cell a.nodes nodes_are u h k rule.0 rule.1 (is_in_contains rules k parts.1) (guards_of sizes (pos c.x) (pos c.y) (conditions t.matrices rule.0) rule.2))

  lawful_able : (k : ℕ) (l : IsLawful t sizes c k) → is_able k ≡ true
  unfolding meets
  lawful_able k l = both (meets_at t sizes k) (is_in rules k)
      (ap (λ o. option_map_or (meets t.matrices sizes) o false) l.there ∙ meets_of sizes (pos c.x) (pos c.y) (conditions t.matrices l.rule) l.can.applies)
      (contains_is_in rules k (lawful_among i.program number t sizes i.well_formed i.sound i.there c made.cell a.nodes nodes_are u h k (in_lawful t sizes c k l)))

  abbrev able : List ℕ
  able = able_of t sizes rules

  in_able : (k : ℕ) → k < length t.rules → is_able k ≡ true → Contains able k
  unfolding met_of
  in_able k below e = let parts = and_parts (meets_at t sizes k) (is_in rules k) e in
      in_filter (is_in rules) (met_of t sizes) k (in_filter (meets_at t sizes) (range_with_len 0 (length t.rules)) k (in_range (length t.rules) k below) parts.0) parts.1

  able_in : (k : ℕ) → Contains able k → is_able k ≡ true
  unfolding met_of
  able_in k m =
      let one = filter_in (is_in rules) (met_of t sizes) k m in
      let two = filter_in (meets_at t sizes) (range_with_len 0 (length t.rules)) k one.0 in
      both (meets_at t sizes k) (is_in rules k) two.1 one.1

  prio : (k : ℕ) (r : ProgRule) → slice_get t.rules k ≡ Some r → priority t k ≡ r.priority
  prio k r e = ap (λ o. option_map_or (λ (r : ProgRule). r.priority) o 0) e

  one_test : (k : ℕ) → Contains (range_with_len 0 (length t.rules)) k → is_lawful t sizes c k ≡ (is_able k && is_least t able k)
  unfolding lawful
  one_test k m = same_test (is_lawful t sizes c k) (is_able k && is_least t able k)
      (λ e.
      let l = lawful_in t sizes c k (law_here e) in
      both (is_able k) (is_least t able k) (lawful_able k l) (each_all (λ other. nat_le (priority t k) (priority t other)) able (λ j in_j.
      let can = able_can j (able_in j in_j) in
      let least : l.rule.priority ≤ can.0.priority = l.least j can.0 can.1 can.2 in
      grind (arith, nat_tests, least, prio k l.rule l.there, prio j can.0 can.1))))
      (λ e.
      let parts = and_parts (is_able k) (is_least t able k) e in
      let can = able_can k parts.0 in
      let other = some_member (lawful t sizes c) (has_lawful i.program number t c sizes i.well_formed i.sound i.there made.cell made.made) in
      let first = lawful_in t sizes c other.0 other.1 in
      let low : nat_le (priority t k) (priority t other.0) ≡ true = all_each (λ o. nat_le (priority t k) (priority t o)) able other.0 parts.1 (in_able other.0 (slice_get_within t.rules other.0 first.rule first.there) (lawful_able other.0 first)) in
      let below : can.0.priority ≤ first.rule.priority = grind (arith, nat_tests, low, prio k can.0 can.1, prio other.0 first.rule first.there) in
      lawful_back (record { rule = can.0; there = can.1; can = can.2; least = λ j r there c. omega (arith, below, first.least j r there c) }))
    where
      law_here : is_lawful t sizes c k ≡ true → Contains (lawful t sizes c) k
      law_here e = in_filter (is_lawful t sizes c) (range_with_len 0 (length t.rules)) k m e

      lawful_back : IsLawful t sizes c k → is_lawful t sizes c k ≡ true
      lawful_back l = (filter_in (is_lawful t sizes c) (range_with_len 0 (length t.rules)) k (in_lawful t sizes c k l)).1

  pub lawful_is : lawful t sizes c ≡ least_of t able
  unfolding lawful least_of met_of
  lawful_is =
      same_filter (is_lawful t sizes c) (λ k. is_able k && is_least t able k) (range_with_len 0 (length t.rules)) one_test
      ∙ sym (filter_both (is_least t able) is_able (range_with_len 0 (length t.rules)))
      ∙ ap (filter (is_least t able)) (sym (filter_both (is_in rules) (meets_at t sizes) (range_with_len 0 (length t.rules))))
