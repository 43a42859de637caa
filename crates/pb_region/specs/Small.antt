-- Numbers so small that no sum of them passes the limit of forms.
use Rattle.std.specs.Prelude.{◌≡◌, ◌+◌, ◌^◌, ◌≤◌, ℤ, Bool, false, IsTrue, nat_le, unsigned_abs, length}
use Rattle.std.specs.List.{All, AllByRecursion, list_all}
use Rattle.pb_linear.specs.Numbers.{Numbers}
use Rattle.pb_linear.specs.Sizes.{IsRanges}
use Rattle.pb_syntax.specs.declared.limits.TheConstants.{MOST_CONDITIONS, MOST_MATRICES, MOST_VIEWS}
use Rattle.pb_program.specs.declared.view.Cond.{Cond}
use Rattle.pb_program.specs.declared.view.Read.{Read}
use Rattle.pb_program.specs.Forms.{CoordinateValue, DeclValue}
use Rattle.pb_program.specs.Trees.{ProgRule, ProgTransform}
use Rattle.pb_program.specs.WellFormed.{is_small}
use Rattle.pb_region.specs.Boxes.{Limits}
use Rattle.pb_region.specs.Ends.{Ends, Interval}

-- each coefficient of a form is at most 2^23 in absolute value, and the constant at most 2^24
pub record AreSmall (n : Numbers) : Type 0 where
  pub constant : unsigned_abs n.constant ≤ 2 ^ 24
  pub whole : IsTrue (list_all is_small n.whole)
  pub half : IsTrue (list_all is_small n.half)
  pub third : IsTrue (list_all is_small n.third)
  pub quarter : IsTrue (list_all is_small n.quarter)

-- of a coordinate
pub record IsSmall (c : CoordinateValue) : Type 0 where
  pub x : unsigned_abs c.x ≤ 2 ^ 23
  pub y : unsigned_abs c.y ≤ 2 ^ 23
  pub rest : AreSmall c.rest

pub record IsSmallDecl (d : DeclValue) : Type 0 where
  pub w : AreSmall d.w
  pub h : AreSmall d.h

-- the constants of a cell's coordinates are at most 2^23, so that one more is small too
pub record IsSmallRead (r : Read) : Type 0 where
  pub x0 : IsSmall r.x0
  pub y0 : IsSmall r.y0
  pub x1 : IsSmall r.x1
  pub y1 : IsSmall r.y1
  pub start_x : unsigned_abs r.x0.rest.constant ≤ 2 ^ 23
  pub start_y : unsigned_abs r.y0.rest.constant ≤ 2 ^ 23

pub record IsSmallCond (c : Cond) : Type 0 where
  pub left : IsSmall c.left
  pub right : IsSmall c.right

-- ends of what a view shows
pub record IsSmallInterval (i : Interval) : Type 0 where
  pub low : AreSmall i.low.rest
  pub high : AreSmall i.high.rest

pub record AreSmallEnds (e : Ends) : Type 0 where
  pub x : IsSmallInterval e.x
  pub y : IsSmallInterval e.y

-- of a transform: some sizes are in range, and its sides are small
pub record IsSmallTransform (t : ProgTransform) : Type 0 where
  pub ranges : IsRanges t.ranges
  pub few : length t.matrices ≤ MOST_MATRICES
  pub matrices : All IsSmallDecl t.matrices

-- of a rule: its views and conditions are few and small
pub record IsSmallRule (r : ProgRule) : Type 0 where
  pub few_outs : length r.outs ≤ MOST_VIEWS
  pub few_reads : length r.reads ≤ MOST_VIEWS
  pub few_conds : length r.conds ≤ MOST_CONDITIONS
  pub outs : All IsSmallRead r.outs
  pub reads : All IsSmallRead r.reads
  pub conds : All IsSmallCond r.conds

-- a number of a bound: at most 2^24 + 2 in absolute value
abbrev pub is_bound_number : ℤ → Bool
is_bound_number z = nat_le (unsigned_abs z) (2 ^ 24 + 2)

-- a bound of such numbers
pub record IsSmallBound (n : Numbers) : Type 0 where
  pub constant : IsTrue (is_bound_number n.constant)
  pub whole : IsTrue (list_all is_bound_number n.whole)
  pub half : IsTrue (list_all is_bound_number n.half)
  pub third : IsTrue (list_all is_bound_number n.third)
  pub quarter : IsTrue (list_all is_bound_number n.quarter)

pub record AreSmallLimits (l : Limits) : Type 0 where
  pub lower_x : AllByRecursion IsSmallBound l.lower_x
  pub upper_x : AllByRecursion IsSmallBound l.upper_x
  pub lower_y : AllByRecursion IsSmallBound l.lower_y
  pub upper_y : AllByRecursion IsSmallBound l.upper_y

-- an end of a read: of the rule variables at most one plays a part, with the coefficient 1 or -1; ends bear no mark of a quotient
pub record IsSmallEnd (c : CoordinateValue) : Type 0 where
  pub unmarked : c.quotient ≡ false
  pub coefficients : unsigned_abs c.x + unsigned_abs c.y ≤ 1
  pub rest : IsSmallBound c.rest

pub record HaveSmallEnds (e : Ends) : Type 0 where
  pub x_low : IsSmallEnd e.x.low
  pub x_high : IsSmallEnd e.x.high
  pub y_low : IsSmallEnd e.y.low
  pub y_high : IsSmallEnd e.y.high
