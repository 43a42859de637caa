-- The value of digits, one more digit at a time.
use Rattle.std.proofs.Common.{◌≡◌, ℕ, ◌+◌, ◌-◌, ◌*◌, ◌<◌, ◌≤◌, true, false, List, [], ◌∷◌, None, refl, ◌∙◌, length, get_or, drop, arith}
use Rattle.std.specs.Char.{is_ascii_digit, digit_value}
use Rattle.std.specs.Str.Parse.{digits_value_after}
use Rattle.std.proofs.lemmas.List.{at_drop_more}
use Rattle.std.proofs.lemmas.Bool.Decides.{nat_tests}
use Rattle.pb_lexer.specs.Reading.{value_after}

pub digit_faulty : (v c : ℕ) (cs : List ℕ) → is_ascii_digit c ≡ false → value_after v (c ∷ cs) ≡ None
digit_faulty v c cs e = rw e refl

digit_is : (c : ℕ) → is_ascii_digit c ≡ true → digit_value c ≡ c - 48
digit_is c e = grind (arith, nat_tests)

pub digit_more : (v c : ℕ) (cs : List ℕ) → is_ascii_digit c ≡ true → value_after v (c ∷ cs) ≡ value_after (v * 10 + (c - 48)) cs
digit_more v c cs e = rw (e, digit_is c e) refl

after_ge : (v : ℕ) (ds : List ℕ) → v ≤ digits_value_after 10 v ds
after_ge v [] = omega arith
after_ge v (c ∷ cs) = omega (arith, after_ge (v * 10 + digit_value c) cs)

digit_too_many : (v c : ℕ) (cs : List ℕ) → 922337203685477580 < v → value_after v (c ∷ cs) ≡ None
digit_too_many v c cs h =
    let most : 9223372036854775807 < digits_value_after 10 v (c ∷ cs) = omega (arith, after_ge (v * 10 + digit_value c) cs) in
    grind (arith, nat_tests)

pub digit_too_many_at : (v i : ℕ) (ds : List ℕ) → i < length ds → 922337203685477580 < v → value_after v (drop i ds) ≡ None
digit_too_many_at v i ds h most = at_drop_more (value_after v) ds i 0 h ∙ digit_too_many v (get_or ds i 0) (drop (i + 1) ds) most
