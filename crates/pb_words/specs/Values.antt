-- What single words say: an option's place, a number, a pool.
use Rattle.std.specs.Prelude.{ℕ, Bool, ◌&&◌, List, length, Option, Some, None, nat_eq, nat_lt, nat_le, codes, bytes_eq, if◌then◌else◌}
use Rattle.std.specs.List.{starts_with, list_all}
use Rattle.std.specs.Char.{is_ascii_digit}
use Rattle.std.specs.Str.Parse.{digits_value}
use Rattle.pb_words.specs.declared.ask.Pool.{Pool}
use Rattle.pb_words.specs.declared.ask.Pool.TheVariants.{Serial, Locked, Steal}

-- a word that begins with `--`
abbrev pub is_option : List ℕ → Bool
is_option word = starts_with nat_eq word (codes "--")

-- one to ten digits
abbrev pub is_number : List ℕ → Bool
is_number word = (nat_lt 0 (length word) && nat_le (length word) 10) && list_all is_ascii_digit word

-- the value of one to ten digits, if it is within the range
abbrev pub number_within : ℕ → ℕ → List ℕ → Option ℕ
number_within least most word =
    if is_number word && (nat_le least (digits_value 10 word) && nat_le (digits_value 10 word) most) then Some (digits_value 10 word)
    else None

abbrev pub pool_named : List ℕ → Option Pool
pool_named word =
    if bytes_eq word (codes "serial") then Some Serial
    else (if bytes_eq word (codes "locked") then Some Locked
    else (if bytes_eq word (codes "steal") then Some Steal else None))
