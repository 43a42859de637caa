-- The grid of a matrix, and why there is none.
use Rattle.std.specs.Prelude.{◌≡◌, ℕ, ◌*◌, ◌-◌, nat_lt, Bool, true, false, ◌||◌, ◌⊎◌, List, length, map, Some, None}
use Rattle.std.specs.List.{find}
use Rattle.pb_linear.specs.RuleBox.{Bounds}
use Rattle.pb_linear.specs.Sizes.{leasts_of}
use Rattle.pb_linear.specs.declared.sizes.Ranges.{Ranges}
use Rattle.pb_linear.specs.declared.form.Form.{Form}
use Rattle.pb_linear.specs.declared.vform.SymBox.{SymBox}
use Rattle.pb_grid.specs.declared.axis.Axis.TheVariants as axis
use Rattle.pb_grid.specs.declared.refusal.GridRefusal.{GridRefusal}
use Rattle.pb_grid.specs.declared.refusal.GridRefusal.TheVariants.{Crossing, TooManySegments, Uncovered}
use Rattle.pb_grid.specs.Crossings.{IsCrossing, crossing}
use Rattle.pb_grid.specs.Cuts.{cuts, le}
use Rattle.pb_grid.specs.Lists.{in_order}
use Rattle.pb_grid.specs.Segments.{SegmentValue, areas, is_uncovered, segment_of}

-- more than 32 cuts on an axis, or more than 256 segments
abbrev pub are_too_many : ℕ → ℕ → Bool
are_too_many xs ys = nat_lt 32 xs || (nat_lt 32 ys || nat_lt 256 ((xs - 1) * (ys - 1)))

module _ (leasts : List ℕ) (xs ys : List Form) where
  -- no two cuts of an axis cross
  pub record AreStraight : Type 0 where
    pub on_x : crossing leasts xs ≡ None
    pub on_y : crossing leasts ys ≡ None

  -- and there are few enough of them
  pub record AreCuts : Type 0 where
    pub straight : AreStraight
    pub few : are_too_many (length xs) (length ys) ≡ false

  -- crossing on x, then on y, then the number of segments
  abbrev pub IsCutRefused : GridRefusal → Type 0
  IsCutRefused (Crossing a first second over under) =
      ((a ≡ 0) × IsCrossing leasts xs first second over under)
      ⊎ ((a ≡ 1) × (crossing leasts xs ≡ None) × IsCrossing leasts ys first second over under)
  IsCutRefused TooManySegments = AreStraight × (are_too_many (length xs) (length ys) ≡ true)
  IsCutRefused _ = ⊥

-- a matrix with these boxes and sides
pub record Matrix : Type 0 where
  pub leasts : List ℕ
  pub boxes : List Bounds
  pub width : Form
  pub height : Form

abbrev pub matrix_of : Ranges → List Bounds → Form → Form → Matrix
matrix_of ranges boxes width height = record { leasts = leasts_of ranges; boxes = boxes; width = width; height = height }

module _ (m : Matrix) where
  -- the cuts of x and of y in the order of the boxes
  abbrev pub cuts_x : List Form
  cuts_x = cuts m.leasts axis.X m.width m.boxes

  abbrev pub cuts_y : List Form
  cuts_y = cuts m.leasts axis.Y m.height m.boxes

  -- the areas of the segments in their order
  abbrev pub areas_of : List SymBox
  areas_of = areas (in_order (le m.leasts) cuts_x) (in_order (le m.leasts) cuts_y)

  -- these are the segments
  pub record IsGrid (ss : List SegmentValue) : Type 0 where
    pub cut : AreCuts m.leasts cuts_x cuts_y
    pub covered : find (is_uncovered m.leasts m.boxes) areas_of ≡ None
    pub segments : ss ≡ map (segment_of m.leasts m.boxes) areas_of

  -- the cuts are refused, or there is a first segment that no unguarded rule covers
  abbrev pub IsRefused : GridRefusal → Type 0
  IsRefused (Uncovered area) = AreCuts m.leasts cuts_x cuts_y × (find (is_uncovered m.leasts m.boxes) areas_of ≡ Some area)
  IsRefused e = IsCutRefused m.leasts cuts_x cuts_y e

  -- there are such segments
  pub record HasGrid : Type 0 where
    pub segments : List SegmentValue
    pub is : IsGrid segments

  -- there is such a refusal
  pub record HasRefusal : Type 0 where
    pub why : GridRefusal
    pub told : IsRefused why
