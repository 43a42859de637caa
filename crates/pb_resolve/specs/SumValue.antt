-- The coordinate that a sum is.
use Rattle.pb_program.specs.Forms.{CoordinateValue}
use Rattle.pb_resolve.specs.declared.sum.Sum.{Sum}

abbrev pub value_of : Sum → CoordinateValue
value_of s = record {
  x = s.x;
  y = s.y;
  rest = record { constant = s.constant; whole = s.whole; half = s.half; third = s.third; quarter = s.quarter };
  quotient = s.quotient;
}
