-- What contracts see of a matrix.
use Rattle.std.specs.Prelude.{List, ℤ}
use Rattle.pb_values.specs.declared.shape.Shape.{Shape}

pub record MatrixValue : Type 0 where
  pub shape : Shape
  pub cells : List ℤ
