-- The bounds of the rules and transforms of a program, one after the other.
use Rattle.std.proofs.Common.{◌≡◌, ◌⊎◌, inl, inr, ℕ, ◌+◌, ◌<◌, ◌≤◌, List, length, take, slice_get, Some, subst}
use Rattle.std.specs.List.{All}
use Rattle.std.specs.Option.{IfSome, IsSomeAnd}
use Rattle.pb_syntax.specs.declared.refusal.Refusal.{Refusal}
use Rattle.pb_syntax.specs.declared.refusal.Refusal.TheVariants.{Memory}
use Rattle.pb_program.specs.Trees.{ProgRule, ProgTransform}
use Rattle.pb_program.specs.WellFormed.{IsTransform, IsWellFormed}
use Rattle.pb_region.specs.Dims.{AtTransform}
use Rattle.pb_region.specs.Rules.{AtRule, HasRule, IsAccepted, IsRefused}
use Rattle.pb_region.proofs.SmallLemmas.{at_place}
use Rattle.pb_check.specs.Phases.{FailsRule}
use Rattle.pb_check.proofs.FirstLemmas.{more, some_at}

pub few_rules : (ts : List ProgTransform) (t : ℕ) (x : ProgTransform) → IsWellFormed ts → slice_get ts t ≡ Some x → length x.rules ≤ 32
few_rules ts t x well at = (at_place (IsTransform (length ts)) ts t x well.transforms at).few_rules

pub few_transforms : (ts : List ProgTransform) → IsWellFormed ts → length ts ≤ 64
few_transforms ts well = well.few

module _ (ts : List ProgTransform) (t : ℕ) (x : ProgTransform) (at : slice_get ts t ≡ Some x) where
  said : (P : ProgTransform → Type 0) → AtTransform ts t P → P x
  said P h = subst (λ o. IfSome o P) at h

  said_of_rule : (P : ProgTransform → ProgRule → Type 0) (r : ℕ) (y : ProgRule) → AtRule ts t r P → slice_get x.rules r ≡ Some y → P x y
  said_of_rule P r y h there = subst (λ o. IfSome o (P x)) there (said (λ z. IfSome (slice_get z.rules r) (P z)) h)

  had_by_rule : (P : ProgTransform → ProgRule → Type 0) (r : ℕ) (y : ProgRule) → HasRule ts t r P → slice_get x.rules r ≡ Some y → P x y
  had_by_rule P r y h there = subst (λ o. IsSomeAnd o (P x)) there (subst (λ o. IsSomeAnd o (λ z. IsSomeAnd (slice_get z.rules r) (P z))) at h)

  next_by : (r : ℕ) → ((y : ProgRule) × (slice_get x.rules r ≡ Some y)) → All (IsAccepted x) (take r x.rules) → AtRule ts t r IsAccepted → All (IsAccepted x) (take (r + 1) x.rules)
  next_by r y before h = more (IsAccepted x) x.rules r y.0 before y.1 (said_of_rule IsAccepted r y.0 h y.1)

  fails_by : (r : ℕ) (e : Refusal) → ((y : ProgRule) × (slice_get x.rules r ≡ Some y)) → All (IsAccepted x) (take r x.rules)
      → HasRule ts t r (λ transform rule. IsRefused t r transform rule e) → FailsRule t x e
  fails_by r e y before h = record { place = r; item = y.0; there = y.1; fails = had_by_rule (λ transform rule. IsRefused t r transform rule e) r y.0 h y.1; earlier = before }

-- one more rule has boxes, or it is the first that hasn't
pub next_rule : (ts : List ProgTransform) (t : ℕ) (x : ProgTransform) (r : ℕ) → All (IsAccepted x) (take r x.rules) → AtRule ts t r IsAccepted → slice_get ts t ≡ Some x → r < length x.rules
    → All (IsAccepted x) (take (r + 1) x.rules)
next_rule ts t x r before h at below = next_by ts t x at r (some_at x.rules r below) before h

pub rule_fails : (ts : List ProgTransform) (t : ℕ) (x : ProgTransform) (r : ℕ) (e : Refusal) → All (IsAccepted x) (take r x.rules)
    → (e ≡ Memory) ⊎ HasRule ts t r (λ transform rule. IsRefused t r transform rule e) → slice_get ts t ≡ Some x → r < length x.rules → (e ≡ Memory) ⊎ FailsRule t x e
rule_fails ts t x r e before (inl is) at below = inl is
rule_fails ts t x r e before (inr h) at below = inr (fails_by ts t x at r e (some_at x.rules r below) before h)

-- what is said of the transform with a number
pub at_transform : (ts : List ProgTransform) (t : ℕ) (x : ProgTransform) (P : ProgTransform → Type 0) → slice_get ts t ≡ Some x → AtTransform ts t P → P x
at_transform ts t x P at h = said ts t x at P h
