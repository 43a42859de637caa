-- The sides of what a view shows, where no rule variable plays a part.
use Rattle.std.proofs.Common.{◌≡◌, refl, ℕ, Bool, true, false, ◌==◌, if◌then◌else◌, ℤ, pos, ◌+ℤ◌, ◌-ℤ◌, List, arith}
use Rattle.std.proofs.lemmas.Int.{ints}
use Rattle.pb_linear.specs.Numbers.{exact_value}
use Rattle.pb_program.specs.declared.view.Read.{Read}
use Rattle.pb_program.specs.declared.view.ReadView.TheVariants as view
use Rattle.pb_program.specs.Areas.{area_of, at, one_place}
use Rattle.pb_program.specs.Forms.{CoordinateValue, DeclValue, coordinate_at}
use Rattle.pb_recursion.specs.Shapes.{sides_of_area, span_length}

pub at_start : (c : CoordinateValue) (sizes : List ℕ) → coordinate_at c sizes (pos 0) (pos 0) ≡ exact_value c.rest sizes
at_start c sizes = omega (arith, ints)

from_zero : (z : ℤ) → z -ℤ pos 0 ≡ z
from_zero z = omega (arith, ints)

of_one : (z : ℤ) → (z +ℤ pos 1) -ℤ z ≡ pos 1
of_one z = omega (arith, ints)

one_high : (flat : Bool) (z : ℤ) → span_length (if flat then one_place (pos 0) else one_place z) ≡ pos 1
one_high true z = refl
one_high false z = of_one z

module _ (sizes : List ℕ) (r : Read) (d : DeclValue) where
  pub cell_sides : r.view ≡ view.Cell → sides_of_area r.view (area_of sizes (pos 0) (pos 0) r d) ≡ (pos 1, pos 1)
  cell_sides e = rw e (λ i. (of_one (at sizes (pos 0) (pos 0) r.x0) i, one_high (r.dims == 1) (at sizes (pos 0) (pos 0) r.y0) i))

  pub row_sides : r.view ≡ view.Row → sides_of_area r.view (area_of sizes (pos 0) (pos 0) r d) ≡ (exact_value d.w sizes, pos 1)
  row_sides e = rw e (λ i. (from_zero (exact_value d.w sizes) i, of_one (at sizes (pos 0) (pos 0) r.y0) i))
