-- The value of digits, up to the largest that a cell can have.
use Rattle.std.specs.Prelude.{ℕ, ◌^◌, ◌&&◌, List, Option, Some, None, nat_le, if◌then◌else◌}
use Rattle.std.specs.Str.{all_ascii_digits}
use Rattle.std.specs.Str.Parse.{digits_value_after}
use Rattle.pb_matrix.specs.Words.{has_bytes}

-- the value of digits that follow those of n, if it is at most 2^63
abbrev pub magnitude_after : ℕ → List ℕ → Option ℕ
magnitude_after n ds =
    if all_ascii_digits ds && nat_le (digits_value_after 10 n ds) (2 ^ 63) then Some (digits_value_after 10 n ds)
    else None

-- the value of one digit or more
abbrev pub magnitude : List ℕ → Option ℕ
magnitude ds = if has_bytes ds then magnitude_after 0 ds else None
