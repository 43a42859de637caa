-- Coefficients as forms hold them.
use Rattle.std.specs.Prelude.{◌^◌, ◌≤◌, ℤ, unsigned_abs}

abbrev pub IsShort : ℤ → Type 0
IsShort z = unsigned_abs z ≤ 2 ^ 26
