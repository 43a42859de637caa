-- The checked operations on the numbers of cells.
use Rattle.std.specs.Prelude.{◌^◌, zero, suc, Bool, nat_lt, ℤ, pos, negsuc, int_div, int_rem, Result, Ok, Err, if◌then◌else◌}
use Rattle.pb_values.specs.declared.outcome.Kind.{Kind}
use Rattle.pb_values.specs.declared.outcome.Kind.TheVariants.{Overflow, DivideByZero}

-- whether a whole number is one of the numbers of a cell, from -2^63 to 2^63 - 1
abbrev pub fits_i64 : ℤ → Bool
fits_i64 (pos n) = nat_lt n (2 ^ 63)
fits_i64 (negsuc n) = nat_lt n (2 ^ 63)

-- a whole number as a cell's number, or the overflow of the operation that made it
abbrev pub checked_result : ℤ → Result ℤ Kind
checked_result z = if fits_i64 z then Ok z else Err Overflow

-- what a division gives, unless its divisor is 0 or its quotient is no number of a cell
abbrev pub divided : ℤ → ℤ → ℤ → Result ℤ Kind
divided a (pos zero) answer = Err DivideByZero
divided a (pos (suc n)) answer = if fits_i64 (int_div a (pos (suc n))) then Ok answer else Err Overflow
divided a (negsuc n) answer = if fits_i64 (int_div a (negsuc n)) then Ok answer else Err Overflow

-- the quotient, truncated toward zero
abbrev pub quotient : ℤ → ℤ → Result ℤ Kind
quotient a b = divided a b (int_div a b)

-- the remainder of the truncated quotient
abbrev pub remainder : ℤ → ℤ → Result ℤ Kind
remainder a b = divided a b (int_rem a b)
