-- The order of forms at all sizes in range.
use Rattle.std.proofs.Common.{◌≡◌, refl, sym, subst, ℕ, ℤ, true, List, length}
use Rattle.std.specs.List.{All}
use Rattle.std.proofs.lemmas.Bool.{and_parts}
use Rattle.pb_linear.specs.Form.{HasNumbers, numbers, value}
use Rattle.pb_linear.specs.Held.{AreHeld}
use Rattle.pb_linear.specs.Most.{Most}
use Rattle.pb_linear.specs.Numbers.{difference}
use Rattle.pb_linear.specs.RuleBox.{Bounds}
use Rattle.pb_linear.specs.Sizes.{sizes_of}
use Rattle.pb_linear.specs.declared.form.Form.{Form}
use Rattle.pb_linear.proofs.SizesLemmas.{le_everywhere-refl, le_everywhere-trans}
use Rattle.pb_linear.specs.declared.sizes.Sizes.{Sizes}
use Rattle.pb_grid.specs.declared.axis.Axis.{Axis}
use Rattle.pb_grid.specs.declared.axis.Axis.TheVariants as axis
use Rattle.pb_grid.specs.Crossings.{IsFarthest}
use Rattle.pb_grid.specs.Cuts.{AreSmall, IsSmallBox, le, lower, same, upper}
use Rattle.pb_grid.proofs.FormLemmas.{difference_value}

module _ (leasts : List ℕ) where
  pub le-refl : (a : Form) → le leasts a a ≡ true
  unfolding le
  le-refl a = le_everywhere-refl leasts (value a)

  pub le-trans : (a b c : Form) → le leasts a b ≡ true → le leasts b c ≡ true → le leasts a c ≡ true
  unfolding le
  le-trans a b c h k = le_everywhere-trans leasts (value a) (value b) (value c) h k

  pub same-trans : (a b c : Form) → same leasts a b ≡ true → same leasts b c ≡ true → same leasts a c ≡ true
  same-trans a b c h k =
      let ab = and_parts (le leasts a b) (le leasts b a) h in
      let bc = and_parts (le leasts b c) (le leasts c b) k in
      rw (le-trans a b c ab.0 bc.0, le-trans c b a bc.1 ab.1) refl

-- the greatest value of a difference
pub farthest_is : (leasts : List ℕ) (a b f : Form) (m : ℤ) (s t : Sizes) → HasNumbers (difference (numbers a) (numbers b)) f → Most (value f) leasts m (sizes_of s) → t ≡ s → AreHeld (length leasts) t → IsFarthest leasts a b t
farthest_is leasts a b f m s t has most same held = record {
  held = held;
  most = m;
  greatest = subst (λ (v : List ℕ → ℤ). Most v leasts m (sizes_of t)) (λ i sizes. difference_value a b f has sizes i) (subst (λ u. Most (value f) leasts m (sizes_of u)) (sym same) most);
}

-- the bounds of a small box
pub small_lower : (a : Axis) (b : Bounds) → IsSmallBox b → All AreSmall (lower a b)
small_lower axis.X b h = h.lower_x
small_lower axis.Y b h = h.lower_y

pub small_upper : (a : Axis) (b : Bounds) → IsSmallBox b → All AreSmall (upper a b)
small_upper axis.X b h = h.upper_x
small_upper axis.Y b h = h.upper_y
