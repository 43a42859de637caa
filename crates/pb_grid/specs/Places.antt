-- The places of a matrix at sizes, and the rules that may make the cell there.
use Rattle.std.specs.Prelude.{◌≡◌, ◌≤◌, false, IsTrue, ℕ, ℤ, pos, ◌≤ℤ◌, ◌<ℤ◌, int_le, int_lt, Bool, ◌&&◌, List, map, filter}
use Rattle.std.specs.List.{All, Contains, list_all}
use Rattle.pb_linear.specs.Form.{value}
use Rattle.pb_linear.specs.RuleBox.{Bounds}
use Rattle.pb_linear.specs.Sizes.{InRange}
use Rattle.pb_grid.specs.declared.axis.Axis.{Axis}
use Rattle.pb_grid.specs.declared.axis.Axis.TheVariants as axis
use Rattle.pb_grid.specs.declared.segments.Holder.{Holder}
use Rattle.pb_grid.specs.Cuts.{lower, upper}
use Rattle.pb_grid.specs.Grids.{Matrix}
use Rattle.pb_grid.specs.Segments.{SegmentValue, holder_of}

module _ (sizes : List ℕ) (x y : ℤ) where
  -- a segment's area holds the place
  abbrev pub is_at : SegmentValue → Bool
  is_at s = (int_le (value s.area.x0 sizes) x && int_lt x (value s.area.x1 sizes)) && (int_le (value s.area.y0 sizes) y && int_lt y (value s.area.y1 sizes))

-- each lower bound is at most the coordinate, and the coordinate below each upper bound
abbrev pub is_on : List ℕ → Axis → ℤ → Bounds → Bool
is_on sizes a v b = list_all (λ f. int_le (value f sizes) v) (lower a b) && list_all (λ f. int_lt v (value f sizes)) (upper a b)

-- a box holds the place
abbrev pub is_in : List ℕ → ℤ → ℤ → Bounds → Bool
is_in sizes x y b = is_on sizes axis.X x b && is_on sizes axis.Y y b

-- the rules with a box that holds the place, in the order of the boxes
abbrev pub holders_at : List ℕ → ℤ → ℤ → List Bounds → List Holder
holders_at sizes x y boxes = map holder_of (filter (is_in sizes x y) boxes)

-- a place of the matrix at sizes in range
pub record IsPlace (m : Matrix) (sizes : List ℕ) (x y : ℤ) : Type 0 where
  pub in_range : InRange m.leasts sizes
  pub from_x : pos 0 ≤ℤ x
  pub before_x : x <ℤ value m.width sizes
  pub from_y : pos 0 ≤ℤ y
  pub before_y : y <ℤ value m.height sizes

-- a rule may make the cell there: one of its boxes holds the place, and its priority is at most that of each unguarded
-- rule with a box that does
pub record MayMake (boxes : List Bounds) (sizes : List ℕ) (x y : ℤ) (rule : ℕ) : Type 0 where
  pub box : Bounds
  pub there : Contains boxes box
  pub numbered : box.rule ≡ rule
  pub inside : IsTrue (is_in sizes x y box)
  pub least : All (λ b. IsTrue (is_in sizes x y b) → b.guarded ≡ false → box.priority ≤ b.priority) boxes
