-- The cuts of an axis of a matrix.
use Rattle.std.specs.Prelude.{◌≡◌, refl, ◌^◌, ℕ, ℤ, pos, unsigned_abs, nat_le, Bool, IsTrue, ◌&&◌, not, List, [], ◌∷◌, ◌++◌, filter}
use Rattle.std.specs.List.{All, flat_map, list_all}
use Rattle.pb_linear.specs.Form.{value}
use Rattle.pb_linear.specs.RuleBox.{Bounds}
use Rattle.pb_linear.specs.Sizes.{le_everywhere}
use Rattle.pb_linear.specs.declared.form.Form.{Form}
use Rattle.pb_grid.specs.declared.axis.Axis.{Axis}
use Rattle.pb_grid.specs.declared.axis.Axis.TheVariants as axis
use Rattle.pb_grid.specs.Lists.{firsts}

abbrev nothing : List ℤ
nothing = pos 0 ∷ pos 0 ∷ pos 0 ∷ pos 0 ∷ pos 0 ∷ pos 0 ∷ pos 0 ∷ pos 0 ∷ []

-- the form 0
abbrev pub zero : Form
zero = record {
  constant = pos 0;
  whole = nothing;
  half = nothing;
  third = nothing;
  quarter = nothing;
  small_constant = refl;
  small_whole = refl;
  small_half = refl;
  small_third = refl;
  small_quarter = refl;
}

-- one form is at most another at all sizes in range
unfoldable pub le : List ℕ → Form → Form → Bool
le leasts a b = le_everywhere leasts (value a) (value b)

-- two forms are equal at all sizes in range
abbrev pub same : List ℕ → Form → Form → Bool
same leasts a b = le leasts a b && le leasts b a

-- each of two forms is above the other at some sizes
abbrev pub crosses : List ℕ → Form → Form → Bool
crosses leasts a b = not (le leasts a b) && not (le leasts b a)

-- the lower and the upper bounds of a box on an axis
abbrev pub lower : Axis → Bounds → List Form
lower axis.X b = b.lower_x
lower axis.Y b = b.lower_y

abbrev pub upper : Axis → Bounds → List Form
upper axis.X b = b.upper_x
upper axis.Y b = b.upper_y

abbrev pub bounds_on : Axis → Bounds → List Form
bounds_on a b = lower a b ++ upper a b

-- above 0 at some sizes, and below the side at some
abbrev pub is_inner : List ℕ → Form → Form → Bool
is_inner leasts side f = not (le leasts f zero) && not (le leasts side f)

-- 0, the side, and the inner bounds of the boxes in their order
abbrev pub listed : List ℕ → Axis → Form → List Bounds → List Form
listed leasts a side boxes = zero ∷ side ∷ filter (is_inner leasts side) (flat_map (bounds_on a) boxes)

-- the cuts in the order of the boxes: of equal forms the first
unfoldable pub cuts : List ℕ → Axis → Form → List Bounds → List Form
cuts leasts a side boxes = firsts (same leasts) (listed leasts a side boxes)

-- two forms differ by a constant
pub record AreParallel (a b : Form) : Type 0 where
  pub whole : a.whole ≡ b.whole
  pub half : a.half ≡ b.half
  pub third : a.third ≡ b.third
  pub quarter : a.quarter ≡ b.quarter

-- a number that may be taken from another: at most 2^25 in absolute value
abbrev pub is_half_number : ℤ → Bool
is_half_number z = nat_le (unsigned_abs z) (2 ^ 25)

-- a form of such numbers
pub record AreSmall (f : Form) : Type 0 where
  pub constant : IsTrue (is_half_number f.constant)
  pub whole : IsTrue (list_all is_half_number f.whole)
  pub half : IsTrue (list_all is_half_number f.half)
  pub third : IsTrue (list_all is_half_number f.third)
  pub quarter : IsTrue (list_all is_half_number f.quarter)

-- a box whose bounds are
pub record IsSmallBox (b : Bounds) : Type 0 where
  pub lower_x : All AreSmall b.lower_x
  pub upper_x : All AreSmall b.upper_x
  pub lower_y : All AreSmall b.lower_y
  pub upper_y : All AreSmall b.upper_y
