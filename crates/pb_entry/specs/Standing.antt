-- Coefficients of a size variable alone.
use Rattle.std.specs.Prelude.{◌≡◌, ℕ, ◌+◌, ◌^◌, ◌≤◌, ℤ, pos, unsigned_abs, List, drop, take}
use Rattle.std.specs.List.{AllByRecursion}
use Rattle.pb_linear.specs.Numbers.{coefficient}

-- a coefficient as forms hold it
abbrev pub IsShort : ℤ → Type 0
IsShort z = unsigned_abs z ≤ 2 ^ 26

-- one coefficient is 1, and the others are 0
pub record IsUnit (k : ℕ) (row : List ℤ) : Type 0 where
  pub one : coefficient row k ≡ pos 1
  pub before : AllByRecursion (λ z. z ≡ pos 0) (take k row)
  pub after : AllByRecursion (λ z. z ≡ pos 0) (drop (k + 1) row)
