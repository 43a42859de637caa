-- How large the numbers of a sum can be.
use Rattle.std.specs.Prelude.{ℕ, ◌*◌, ◌^◌, ℤ, Bool, nat_le, unsigned_abs}

-- a sum of so many terms, each of at most 2^20 in absolute value
abbrev pub is_within : ℕ → ℤ → Bool
is_within terms z = nat_le (unsigned_abs z) (terms * 2 ^ 20)
