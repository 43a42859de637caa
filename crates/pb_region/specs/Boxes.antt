-- Which conditions bound a box, the bounds that they give, and the box of each output of a rule.
use Rattle.std.specs.Prelude.{ℕ, ℤ, pos, negsuc, int_le, Bool, true, false, ◌&&◌, ◌||◌, not, List, [], ◌∷◌, map, Option, Some, None, if◌then◌else◌}
use Rattle.std.specs.List.{filter_map, list_any}
use Rattle.std.specs.Ordering.{int_eq}
use Rattle.pb_linear.specs.Form.{numbers}
use Rattle.pb_linear.specs.Numbers.{Numbers, exact_value, multiple}
use Rattle.pb_linear.specs.RuleBox.{Bounds}
use Rattle.pb_linear.specs.Sizes.{le_everywhere}
use Rattle.pb_program.specs.declared.rule.RuleKind.{RuleKind}
use Rattle.pb_program.specs.declared.rule.RuleKind.TheVariants as kind
use Rattle.pb_program.specs.declared.view.Read.{Read}
use Rattle.pb_program.specs.Conditions.{conditions}
use Rattle.pb_program.specs.Forms.{CoordinateValue, DeclValue}
use Rattle.pb_program.specs.Trees.{ProgRule}
use Rattle.pb_region.specs.declared.bounds.Axis.{Axis}
use Rattle.pb_region.specs.declared.bounds.Axis.TheVariants as axis
use Rattle.pb_region.specs.declared.bounds.Side.{Side}
use Rattle.pb_region.specs.declared.bounds.Side.TheVariants as side
use Rattle.pb_region.specs.Ends.{Ends, ends_of}
use Rattle.pb_region.specs.Gaps.{gap, raised}

-- ---- conditions with their terms collected
abbrev pub is_unit : ℤ → Bool
is_unit k = int_le (negsuc 0) k && int_le k (pos 1)

abbrev pub is_zero : ℤ → Bool
is_zero k = int_eq k (pos 0)

-- at most one rule variable, with the coefficient -1 or 1, and no quotient of one
abbrev pub is_box : CoordinateValue → Bool
is_box g = not g.quotient && ((is_unit g.x && is_zero g.y) || (is_zero g.x && is_unit g.y))

-- no rule variable
abbrev pub is_free : CoordinateValue → Bool
is_free g = is_zero g.x && is_zero g.y

-- without a rule variable, and not true at all sizes in range
abbrev pub is_guard : List ℕ → CoordinateValue → Bool
is_guard leasts g = is_free g && not (le_everywhere leasts (exact_value g.rest) (λ _. pos 0))

abbrev pub coefficient : Axis → CoordinateValue → ℤ
coefficient axis.X g = g.x
coefficient axis.Y g = g.y

-- 1 minus a form
abbrev pub from_one : Numbers → Numbers
from_one n = raised (pos 1) (multiple (negsuc 0) n)

-- where `rest - v` is at most 0, v is at least the rest; where `rest + v` is at most 0, v is below 1 minus the rest
abbrev pub bound : Side → Axis → CoordinateValue → Option Numbers
bound side.Lower a g = if int_eq (coefficient a g) (negsuc 0) then Some g.rest else None
bound side.Upper a g = if int_eq (coefficient a g) (pos 1) then Some (from_one g.rest) else None

-- the bounds that conditions give, in their order
unfoldable pub bounds : Side → Axis → List CoordinateValue → List Numbers
bounds s a gaps = filter_map (bound s a) gaps

-- ---- boxes
-- the bounds of x and y: at least each lower one, below each upper one
pub record Limits : Type 0 where
  pub lower_x : List Numbers
  pub upper_x : List Numbers
  pub lower_y : List Numbers
  pub upper_y : List Numbers

-- the bounds that a rule for single cells has by its conditions, and any other rule by the ends of the output
abbrev pub limits_of : RuleKind → List CoordinateValue → Ends → Limits
limits_of kind.Cell gaps e = record { lower_x = bounds side.Lower axis.X gaps; upper_x = bounds side.Upper axis.X gaps; lower_y = bounds side.Lower axis.Y gaps; upper_y = bounds side.Upper axis.Y gaps }
limits_of _ gaps e = record { lower_x = e.x.low.rest ∷ []; upper_x = e.x.high.rest ∷ []; lower_y = e.y.low.rest ∷ []; upper_y = e.y.high.rest ∷ [] }

abbrev pub is_wide : RuleKind → Bool
is_wide kind.Cell = false
is_wide _ = true

-- what is the same for all outputs of a rule, and the bounds
pub record BoxValue : Type 0 where
  pub rule : ℕ
  pub priority : ℕ
  pub guarded : Bool
  pub wide : Bool
  pub limits : Limits

-- the conditions of a rule with their terms collected
abbrev pub gaps_of : List DeclValue → ProgRule → List CoordinateValue
gaps_of matrices r = map gap (conditions matrices r)

-- the box of an output of the rule with this number
abbrev pub box : List ℕ → List DeclValue → ℕ → ProgRule → Read → BoxValue
box leasts matrices number r out = record {
  rule = number;
  priority = r.priority;
  guarded = list_any (is_guard leasts) (gaps_of matrices r);
  wide = is_wide r.kind;
  limits = limits_of r.kind (gaps_of matrices r) (ends_of matrices out);
}

-- the boxes of a rule, one for each output
abbrev pub boxes : List ℕ → List DeclValue → ℕ → ProgRule → List BoxValue
boxes leasts matrices number r = map (box leasts matrices number r) r.outs

-- what contracts see of a box
abbrev pub box_of : Bounds → BoxValue
box_of b = record {
  rule = b.rule;
  priority = b.priority;
  guarded = b.guarded;
  wide = b.wide;
  limits = record { lower_x = map numbers b.lower_x; upper_x = map numbers b.upper_x; lower_y = map numbers b.lower_y; upper_y = map numbers b.upper_y };
}
