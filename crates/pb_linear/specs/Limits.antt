-- The greatest sizes and numbers, as tests that compute.
use Rattle.std.specs.Prelude.{ℕ, ◌^◌, ℤ, Bool, nat_le, nat_eq, unsigned_abs, List, drop}
use Rattle.std.specs.List.{list_all}

-- a coefficient or a constant that a form may hold: at most 2^26 in absolute value
abbrev pub is_number : ℤ → Bool
is_number z = nat_le (unsigned_abs z) (2 ^ 26)

-- the entries from a place on are 0
abbrev pub is_zero_from : ℕ → List ℕ → Bool
is_zero_from count sizes = list_all (λ v. nat_eq v 0) (drop count sizes)
