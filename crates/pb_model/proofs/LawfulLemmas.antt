-- The lawful rules by tests, and by what they say.
use Rattle.std.proofs.Common.{◌≡◌, ◌∙◌, refl, ap, ◌↔◌, ℕ, zero, suc, ◌+◌, ◌<◌, ◌≤◌, ℤ, pos, ◌≤ℤ◌, Bool, true, false, ◌&&◌, ◌||◌, not, List, ◌∷◌, length, slice_get, Option, Some, None, arith}
use Rattle.std.specs.Prelude.{filter, int_le, nat_le}
use Rattle.std.specs.List.{Contains, list_all, range_with_len}
use Rattle.std.specs.Option.{option_map_or}
use Rattle.std.proofs.Math.Bool.{cond}
use Rattle.std.proofs.lemmas.Bool.{and_parts, le-leb, leb-true, lt-ltb}
use Rattle.std.proofs.lemmas.Int.{ints}
use Rattle.std.proofs.lemmas.Option.{slice_get_within}
use Rattle.pb_program.specs.declared.rule.RuleKind.{RuleKind}
use Rattle.pb_program.specs.declared.rule.RuleKind.TheVariants as kind
use Rattle.pb_program.specs.Conditions.{Applies, Condition, Holds, conditions}
use Rattle.pb_program.specs.Configs.{is_rising}
use Rattle.pb_program.specs.Forms.{DeclValue}
use Rattle.pb_program.specs.Trees.{ProgRule, ProgTransform}
use Rattle.pb_model.specs.Cells.{Cell}
use Rattle.pb_model.specs.Lawful.{CanMake, IsLawful, WritesBy, applies, can_make, comes_first, holds, is_lawful, lawful, writes_by}
use Rattle.pb_base.proofs.ListLemmas.{all_each, all_test, at_in, each_all, filter_in, in_at, in_filter, in_range}

le_test : (a b : ℤ) → (int_le a b ≡ true) ↔ (a ≤ℤ b)
le_test a b = (λ h. grind (arith, ints), λ h. grind (arith, ints))

pub holds_test : (sizes : List ℕ) (x y : ℤ) (c : Condition) → (holds sizes x y c ≡ true) ↔ Holds sizes x y c
holds_test sizes x y c = le_test _ _

pub applies_test : (ms : List DeclValue) (r : ProgRule) (sizes : List ℕ) (x y : ℤ) → (applies ms r sizes x y ≡ true) ↔ Applies ms r sizes x y
applies_test ms r sizes x y = all_test (holds sizes x y) (Holds sizes x y) (holds_test sizes x y) (conditions ms r)

module _ (ms : List DeclValue) (sizes : List ℕ) (c : Cell) where
  writes_test : (k : RuleKind) (r : ProgRule) → (writes_by ms sizes c k r ≡ true) ↔ WritesBy ms sizes c k r
  writes_test kind.Cell r = (λ h. h, λ h. h)
  writes_test kind.Wide r = (λ h. h, λ h. h)
  writes_test kind.Plan r = (λ h. h, λ h. h)

  both_true : (a b : Bool) → a ≡ true → b ≡ true → (a && b) ≡ true
  both_true a b ea eb = rw (ea, eb) refl

  pub can_test : (r : ProgRule) → (can_make ms sizes c r ≡ true) ↔ CanMake ms sizes c r
  can_test r =
      let writes = writes_test r.kind r in
      let applying = applies_test ms r sizes (pos c.x) (pos c.y) in (
        λ h. let parts = and_parts (writes_by ms sizes c r.kind r) (applies ms r sizes (pos c.x) (pos c.y)) h in record { writes = writes.0 parts.0; applies = applying.0 parts.1 },
        λ h. both_true _ _ (writes.1 h.writes) (applying.1 h.applies),
      )

  -- no smaller priority among those that can make the cell
  to_least : (b : Bool) (p q : ℕ) → (not b || nat_le p q) ≡ true → b ≡ true → p ≤ q
  to_least true p q h e = leb-true p q h
  to_least false p q h e = absurd (cc)

  from_least : (b : Bool) (p q : ℕ) → (b ≡ true → p ≤ q) → (not b || nat_le p q) ≡ true
  from_least true p q h = le-leb p q (h refl)
  from_least false p q h = refl

  abbrev least_test : ProgRule → ProgRule → Bool
  least_test r other = not (can_make ms sizes c other) || nat_le r.priority other.priority

  first_to : (rules : List ProgRule) (r : ProgRule) → comes_first ms sizes c rules r ≡ true
      → CanMake ms sizes c r × ((j : ℕ) (other : ProgRule) → slice_get rules j ≡ Some other → CanMake ms sizes c other → r.priority ≤ other.priority)
  first_to rules r h =
      let parts = and_parts (can_make ms sizes c r) (list_all (least_test r) rules) h in
      ((can_test r).0 parts.0, λ j other at can. to_least (can_make ms sizes c other) _ _ (all_each (least_test r) rules other parts.1 (in_at rules j other at)) ((can_test other).1 can))

  first_from : (rules : List ProgRule) (r : ProgRule) → CanMake ms sizes c r → ((j : ℕ) (other : ProgRule) → slice_get rules j ≡ Some other → CanMake ms sizes c other → r.priority ≤ other.priority)
      → comes_first ms sizes c rules r ≡ true
  first_from rules r can least =
      let all = each_all (least_test r) rules (λ other inside. let place = at_in rules other inside in from_least (can_make ms sizes c other) _ _ (λ e. least place.0 other place.1 ((can_test other).0 e))) in
      both_true _ _ ((can_test r).1 can) all

module _ (t : ProgTransform) (sizes : List ℕ) (c : Cell) where
  lawful_to : (k : ℕ) (o : Option ProgRule) → slice_get t.rules k ≡ o → option_map_or (comes_first t.matrices sizes c t.rules) o false ≡ true → IsLawful t sizes c k
  lawful_to k None at h = absurd (let e : false ≡ true = h in cc)
  lawful_to k (Some r) at h = let both = first_to t.matrices sizes c t.rules r h in record { rule = r; there = at; can = both.0; least = both.1 }

  pub lawful_in : (k : ℕ) → Contains (lawful t sizes c) k → IsLawful t sizes c k
  unfolding lawful
  lawful_in k h = lawful_to k (slice_get t.rules k) refl (filter_in (is_lawful t sizes c) (range_with_len 0 (length t.rules)) k h).1

  pub in_lawful : (k : ℕ) → IsLawful t sizes c k → Contains (lawful t sizes c) k
  unfolding lawful
  in_lawful k h =
      let test : is_lawful t sizes c k ≡ true = ap (λ o. option_map_or (comes_first t.matrices sizes c t.rules) o false) h.there ∙ first_from t.matrices sizes c t.rules h.rule h.can h.least in
      in_filter (is_lawful t sizes c) (range_with_len 0 (length t.rules)) k (in_range (length t.rules) k (slice_get_within t.rules k h.rule h.there)) test

-- ---- numbers that are kept of a range rise
module _ (p : ℕ → Bool) where
  kept_after : (a b : ℕ) (l : List ℕ) (t : Bool) → a < b → is_rising (b ∷ l) ≡ true → is_rising (a ∷ l) ≡ true → is_rising (a ∷ cond t (b ∷ l) l) ≡ true
  kept_after a b l true below next same = rw (lt-ltb a b below, next) refl
  kept_after a b l false below next same = same

  rises_after : (n a b : ℕ) → a < b → is_rising (a ∷ filter p (range_with_len b n)) ≡ true
  rises_after zero a b below = refl
  rises_after (suc n) a b below = kept_after a b (filter p (range_with_len (b + 1) n)) (p b) below (rises_after n b (b + 1) (omega arith)) (rises_after n a (b + 1) (omega arith))

  kept_first : (b : ℕ) (l : List ℕ) (t : Bool) → is_rising (b ∷ l) ≡ true → is_rising l ≡ true → is_rising (cond t (b ∷ l) l) ≡ true
  kept_first b l true next same = next
  kept_first b l false next same = same

  pub rises : (n b : ℕ) → is_rising (filter p (range_with_len b n)) ≡ true
  rises zero b = refl
  rises (suc n) b = kept_first b (filter p (range_with_len (b + 1) n)) (p b) (rises_after n b (b + 1) (omega arith)) (rises n (b + 1))

pub rising : (t : ProgTransform) (sizes : List ℕ) (c : Cell) → is_rising (lawful t sizes c) ≡ true
unfolding lawful
rising t sizes c = rises (is_lawful t sizes c) (length t.rules) 0
