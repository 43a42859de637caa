-- The segments of a matrix, and the rules that may make the cells of each.
use Rattle.std.specs.Prelude.{ℕ, nat_eq, nat_le, Bool, ◌&&◌, ◌||◌, List, map, filter}
use Rattle.std.specs.List.{flat_map, list_all}
use Rattle.pb_linear.specs.RuleBox.{Bounds}
use Rattle.pb_linear.specs.declared.form.Form.{Form}
use Rattle.pb_linear.specs.declared.vform.SymBox.{SymBox}
use Rattle.pb_grid.specs.declared.axis.Axis.{Axis}
use Rattle.pb_grid.specs.declared.axis.Axis.TheVariants as axis
use Rattle.pb_grid.specs.declared.segments.Holder.{Holder}
use Rattle.pb_grid.specs.Cuts.{le, lower, upper}
use Rattle.pb_grid.specs.Lists.{firsts, neighbours}

-- a box holds what lies between two cuts of an axis: each lower bound is at most the lower cut, and each upper bound at
-- least the upper cut, at all sizes in range
abbrev pub holds_on : List ℕ → Axis → Form × Form → Bounds → Bool
holds_on leasts a gap b = list_all (λ f. le leasts f gap.0) (lower a b) && list_all (λ f. le leasts gap.1 f) (upper a b)

-- and so on both axes
abbrev pub holds : List ℕ → SymBox → Bounds → Bool
holds leasts s b = holds_on leasts axis.X (s.x0, s.x1) b && holds_on leasts axis.Y (s.y0, s.y1) b

-- what counts of the rule of a box
abbrev pub holder_of : Bounds → Holder
holder_of b = record { rule = b.rule; priority = b.priority; guarded = b.guarded }

-- the rules with a box that holds a segment, in the order of the boxes
abbrev pub holders : List ℕ → List Bounds → SymBox → List Holder
holders leasts boxes s = map holder_of (filter (holds leasts s) boxes)

-- no unguarded rule has a smaller priority
abbrev pub is_best : List Holder → Holder → Bool
is_best hs h = list_all (λ k. k.guarded || nat_le h.priority k.priority) hs

-- the numbers of the best rules, each once
unfoldable pub best : List Holder → List ℕ
best hs = firsts nat_eq (map (λ h. h.rule) (filter (is_best hs) hs))

-- no unguarded rule has a box that holds the segment
abbrev pub is_uncovered : List ℕ → List Bounds → SymBox → Bool
is_uncovered leasts boxes s = list_all (λ h. h.guarded) (holders leasts boxes s)

-- a segment as contracts see it
pub record SegmentValue : Type 0 where
  pub area : SymBox
  pub rules : List ℕ

-- the segment of an area
abbrev pub segment_of : List ℕ → List Bounds → SymBox → SegmentValue
segment_of leasts boxes s = record { area = s; rules = best (holders leasts boxes s) }

abbrev pub area_of : Form × Form → Form × Form → SymBox
area_of x y = record { x0 = x.0; x1 = x.1; y0 = y.0; y1 = y.1 }

-- the areas between neighbouring cuts, by y and then by x
abbrev pub areas : List Form → List Form → List SymBox
areas xs ys = flat_map (λ y. map (λ x. area_of x y) (neighbours xs)) (neighbours ys)
