-- A condition of a rule with its terms collected.
use Rattle.std.specs.Prelude.{ℤ, pos, ◌+ℤ◌, ◌-ℤ◌, ◌||◌}
use Rattle.pb_linear.specs.Numbers.{Numbers, difference, with_constant}
use Rattle.pb_program.specs.Forms.{CoordinateValue}
use Rattle.pb_program.specs.Conditions.{Condition}

-- so much more
abbrev pub raised : ℤ → Numbers → Numbers
raised k n = with_constant (n.constant +ℤ k) n

-- the left side of a condition and what is added to it, minus the right side: the condition says that this is at most 0
unfoldable pub gap : Condition → CoordinateValue
gap c = record {
  x = c.left.x -ℤ c.right.x;
  y = c.left.y -ℤ c.right.y;
  rest = raised (pos c.more) (difference c.left.rest c.right.rest);
  quotient = c.left.quotient || c.right.quotient;
}
