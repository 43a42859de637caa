-- Coordinates at fixed sizes.
use Rattle.std.specs.Prelude.{◌≡◌, ℕ, ℤ, ◌+ℤ◌, ◌*ℤ◌, List}
use Rattle.pb_linear.specs.Numbers.{exact_value}
use Rattle.pb_program.specs.Forms.{CoordinateValue}
use Rattle.pb_views.specs.declared.line.Line.{Line}

-- the value at rule variables
abbrev pub line_at : Line → ℤ → ℤ → ℤ
line_at l x y = l.rest +ℤ (l.x *ℤ x +ℤ l.y *ℤ y)

-- a coordinate at sizes
pub record IsLine (c : CoordinateValue) (sizes : List ℕ) (l : Line) : Type 0 where
  pub of_x : l.x ≡ c.x
  pub of_y : l.y ≡ c.y
  pub of_rest : l.rest ≡ exact_value c.rest sizes
