-- What the parts of an instance cost: those whose rules are rules for single cells one by one, any other rule once.
use Rattle.std.specs.Prelude.{◌≡◌, ℕ, ◌+◌, ◌≤◌, ◌&&◌, ◌==◌, Bool, true, if◌then◌else◌, List, length, Some, slice_get, sum_by}
use Rattle.std.specs.List.{All, enumerate_from, list_any}
use Rattle.std.specs.Option.{option_map_or}
use Rattle.pb_linear.specs.Sizes.{sizes_of}
use Rattle.pb_linear.specs.declared.sizes.Sizes.{Sizes}
use Rattle.pb_linear.specs.declared.sizes.TheConstants.{SIZE_TOP}
use Rattle.pb_syntax.specs.declared.limits.TheConstants.{MOST_RULES}
use Rattle.pb_values.specs.declared.rect.Rect.{Rect}
use Rattle.pb_program.specs.Trees.{ProgRule, ProgTransform}
use Rattle.pb_region.specs.Boxes.{is_wide}
use Rattle.pb_frame.specs.declared.part.FramePart.{FramePart}
use Rattle.pb_instance_cost.specs.Shown.{CanShowRule, rule_shown}

-- the one place where rule variables are 0
abbrev pub at_start : Rect
at_start = record { x0 = 0; y0 = 0; x1 = 1; y1 = 1 }

-- a rule that isn't for single cells, with its number, is the rule of some part
abbrev pub is_wide_of : List FramePart → ℕ × ProgRule → Bool
is_wide_of parts r = is_wide r.1.kind && list_any (λ (part : FramePart). part.rule == r.0) parts

module _ (t : ProgTransform) (sizes : List ℕ) where
  -- a rule for single cells over a rectangle; any other rule costs nothing there
  abbrev pub single_shown : Rect → ProgRule → ℕ
  single_shown rect r = if is_wide r.kind then 0 else rule_shown t.matrices sizes rect r

  -- a part, by its rule
  abbrev pub part_shown : FramePart → ℕ
  part_shown part = option_map_or (single_shown part.rect) (slice_get t.rules part.rule) 0

  -- its rule is there, and can be summed over its cells
  pub record CanShowPart (part : FramePart) : Type 0 where
    pub rule : ProgRule
    pub there : slice_get t.rules part.rule ≡ Some rule
    pub can : CanShowRule t.matrices sizes part.rect rule

  module _ (parts : List FramePart) where
    -- any other rule once, where some part has it
    abbrev pub wide_shown : ℕ × ProgRule → ℕ
    wide_shown r = if is_wide_of parts r then rule_shown t.matrices sizes at_start r.1 else 0

    -- each such rule can be summed
    abbrev pub CanShowWides : Type 0
    CanShowWides = (k : ℕ) (r : ProgRule) → slice_get t.rules k ≡ Some r → is_wide_of parts (k, r) ≡ true → CanShowRule t.matrices sizes at_start r

-- what is known of the parts of an instance
pub record CanShowParts (t : ProgTransform) (s : Sizes) (parts : List FramePart) : Type 0 where
  pub sizes : All (λ size. size ≤ SIZE_TOP) s.of
  pub few : length t.rules ≤ MOST_RULES
  pub each : All (CanShowPart t (sizes_of s)) parts
  pub wides : CanShowWides t (sizes_of s) parts

-- all of them
abbrev pub parts_shown : ProgTransform → List ℕ → List FramePart → ℕ
parts_shown t sizes parts = sum_by (part_shown t sizes) parts + sum_by (wide_shown t sizes parts) (enumerate_from 0 t.rules)
