-- How many places a view shows along each axis of its matrix.
use Rattle.std.specs.Prelude.{ℕ, ℤ, ◌+ℤ◌, ◌-ℤ◌, ◌*ℤ◌, List}
use Rattle.pb_program.specs.Areas.{Span, area_of}
use Rattle.pb_program.specs.Forms.{DeclValue}
use Rattle.pb_program.specs.declared.view.Read.{Read}
use Rattle.pb_instance_cost.specs.declared.extent.Extent.{Extent}

-- an extent at rule variables
abbrev pub extent_at : Extent → ℤ → ℤ → ℤ
extent_at e x y = e.rest +ℤ (e.x *ℤ x +ℤ e.y *ℤ y)

-- from the start of a span to its end
abbrev pub span_length : Span → ℤ
span_length s = s.high -ℤ s.low

-- how many places a view shows across, and down
module _ (r : Read) (d : DeclValue) (sizes : List ℕ) where
  abbrev pub width_at : ℤ → ℤ → ℤ
  width_at x y = span_length (area_of sizes x y r d).x

  abbrev pub height_at : ℤ → ℤ → ℤ
  height_at x y = span_length (area_of sizes x y r d).y
