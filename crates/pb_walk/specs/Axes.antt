-- Numbers on an axis, one after another in a direction.
use Rattle.std.specs.Prelude.{◌≡◌, ℕ, ◌+◌, ◌-◌, ◌≤◌, ◌^◌}
use Rattle.pb_linear.specs.declared.boxes.Sign.{Sign}
use Rattle.pb_linear.specs.declared.boxes.Sign.TheVariants.{Plus, Minus}

-- the number so many further than another
abbrev pub moved : Sign → ℕ → ℕ → ℕ
moved Plus i a = a + i
moved Minus i a = a - i

-- so many numbers from one on are there
pub record AreThere (sign : Sign) (a count : ℕ) : Type 0 where
  pub up : sign ≡ Plus → a + count ≤ 2 ^ 64
  pub down : sign ≡ Minus → count ≤ a + 1
