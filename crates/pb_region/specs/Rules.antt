-- When a rule is accepted, with which boxes, and for what it is refused.
use Rattle.std.specs.Prelude.{◌≡◌, ℕ, List, map, not, Option, Some, None, IfSome, IsSomeAnd, position, slice_get}
use Rattle.pb_linear.specs.RuleBox.{Bounds}
use Rattle.pb_linear.specs.Sizes.{leasts_of}
use Rattle.pb_syntax.specs.declared.refusal.Refusal.{Refusal}
use Rattle.pb_syntax.specs.declared.refusal.Refusal.TheVariants.{NotABox, OverlapOutputs}
use Rattle.pb_program.specs.Trees.{ProgRule, ProgTransform}
use Rattle.pb_region.specs.Boxes.{box_of, boxes, gaps_of, is_box}
use Rattle.pb_region.specs.Overlaps.{HasNoOverlap, IsFirstOverlap}

-- what is said of the rule with this number of the transform with this number, where there are both
abbrev pub AtRule : List ProgTransform → ℕ → ℕ → (ProgTransform → ProgRule → Type 0) → Type 0
AtRule ts t r P = IfSome (slice_get ts t) (λ transform. IfSome (slice_get transform.rules r) (P transform))

-- there is a rule of these numbers, of which this is said
abbrev pub HasRule : List ProgTransform → ℕ → ℕ → (ProgTransform → ProgRule → Type 0) → Type 0
HasRule ts t r P = IsSomeAnd (slice_get ts t) (λ transform. IsSomeAnd (slice_get transform.rules r) (P transform))

-- the number of the first condition that is no box
abbrev pub first_no_box : ProgTransform → ProgRule → Option ℕ
first_no_box t r = position (λ g. not (is_box g)) (gaps_of t.matrices r)

-- each condition is a box, and no two outputs may overlap
pub record IsAccepted (t : ProgTransform) (r : ProgRule) : Type 0 where
  pub conditions : first_no_box t r ≡ None
  pub outputs : HasNoOverlap (leasts_of t.ranges) t.matrices r.outs

-- what a rule with this number is accepted with
pub record HasBoxes (number : ℕ) (t : ProgTransform) (r : ProgRule) (bs : List Bounds) : Type 0 where
  pub accepted : IsAccepted t r
  pub boxes : map box_of bs ≡ boxes (leasts_of t.ranges) t.matrices number r

-- a rule of these numbers is refused for its first condition that is no box; else for its first outputs that may overlap
abbrev pub IsRefused : ℕ → ℕ → ProgTransform → ProgRule → Refusal → Type 0
IsRefused number_t number_r t r (NotABox transform rule condition) = (transform ≡ number_t) × (rule ≡ number_r) × (first_no_box t r ≡ Some condition)
IsRefused number_t number_r t r (OverlapOutputs transform rule first second) = (transform ≡ number_t) × (rule ≡ number_r) × (first_no_box t r ≡ None)
    × IsFirstOverlap (leasts_of t.ranges) t.matrices r.outs first second
IsRefused number_t number_r t r _ = ⊥

pub record HasRefusal (number_t number_r : ℕ) (t : ProgTransform) (r : ProgRule) : Type 0 where
  pub why : Refusal
  pub told : IsRefused number_t number_r t r why
