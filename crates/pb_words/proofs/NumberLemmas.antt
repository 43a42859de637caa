-- What `parse` gives for one to ten digits.
use Rattle.std.proofs.Common.{◌≡◌, ℕ, ◌<◌, ◌≤◌, true, List, length, Result, Ok, arith, rules}
use Rattle.std.specs.List.{list_all}
use Rattle.std.specs.Char.{is_ascii_digit}
use Rattle.std.specs.Str.Parse.{digits_value, ParsesUnsigned}
use Rattle.std.proofs.lemmas.Str.Parse.{IsNumeralModel, numerals_by_value, digits_value_short, parse_gives}
use Rattle.std.proofs.lemmas.Bool.Decides.{nat_tests}
use Rattle.pb_words.specs.Values.{is_number}

own : IsNumeralModel (λ ds. list_all is_ascii_digit ds ≡ true) (digits_value 10)
own = numerals_by_value _ (search rules)

parsed : {E : Type 0} (bs : List ℕ) (r : Result ℕ E) → ParsesUnsigned 64 10 bs r → list_all is_ascii_digit bs ≡ true
    → 0 < length bs → length bs ≤ 10 → r ≡ Ok (digits_value 10 bs)
parsed bs r h digits some ten = parse_gives own 64 bs r h digits some (omega (arith, digits_value_short own bs 10 digits ten))

some_digits : (bs : List ℕ) → is_number bs ≡ true → (0 < length bs) × (length bs ≤ 10) × (list_all is_ascii_digit bs ≡ true)
some_digits bs e = grind (arith, nat_tests)

pub number_parsed : {E : Type 0} (bs : List ℕ) (r : Result ℕ E) → ParsesUnsigned 64 10 bs r → is_number bs ≡ true → r ≡ Ok (digits_value 10 bs)
number_parsed bs r h e = let parts = some_digits bs e in parsed bs r h parts.2 parts.0 parts.1
