-- Areas that lie within a matrix.
use Rattle.std.specs.Prelude.{ℤ, pos, ◌≤ℤ◌}
use Rattle.pb_program.specs.Areas.{Area, Span}

-- from 0 or later, up to the side or less
pub record IsAlong (s : Span) (side : ℤ) : Type 0 where
  pub start : pos 0 ≤ℤ s.low
  pub order : s.low ≤ℤ s.high
  pub end : s.high ≤ℤ side

-- within a matrix of this width and height
pub record IsWithin (a : Area) (w h : ℤ) : Type 0 where
  pub x : IsAlong a.x w
  pub y : IsAlong a.y h
