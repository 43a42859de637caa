-- The value of digits.
use Rattle.std.proofs.Common.{◌≡◌, ℕ, ◌+◌, ◌*◌, ◌^◌, ◌<◌, ◌≤◌, Bool, true, false, List, [], ◌∷◌, length, take, refl, arith, rules}
use Rattle.std.proofs.Math.Numerals.{one-add}
use Rattle.std.specs.List.{list_all, prefix_len}
use Rattle.std.specs.Char.{is_ascii_digit}
use Rattle.std.specs.Str.Parse.{digits_value, digits_value_after}
use Rattle.std.specs.Char.{digit_value}
use Rattle.std.proofs.lemmas.Str.Parse.{IsNumeralModel, numerals_by_value, digits_value_short}

pub own : IsNumeralModel (λ ds. list_all is_ascii_digit ds ≡ true) (digits_value 10)
own = numerals_by_value _ (search rules)

pub short_value : (ds : List ℕ) → list_all is_ascii_digit ds ≡ true → length ds ≤ 7 → digits_value 10 ds < 10 ^ 7
short_value ds digits few = digits_value_short own ds 7 digits few

-- the value only grows
pub value_grows : (n : ℕ) (ds : List ℕ) → n ≤ digits_value_after 10 n ds
value_grows n [] = omega arith
value_grows n (d ∷ ds) = let more = value_grows (n * 10 + digit_value d) ds in omega (arith, more)

-- the bytes of a run pass
pass_first : (p : ℕ → Bool) (xs : List ℕ) → list_all p (take (prefix_len p xs) xs) ≡ true
pass_first p [] = refl
pass_first p (x ∷ xs) = step (p x) refl (pass_first p xs)
  where
    step : (b : Bool) → p x ≡ b → list_all p (take (prefix_len p xs) xs) ≡ true → list_all p (take (prefix_len p (x ∷ xs)) (x ∷ xs)) ≡ true
    step true e h = rw (e, one-add, e) h
    step false e h = rw e refl

pub taken_pass : (p : ℕ → Bool) (text front : List ℕ) {n : ℕ} → front ≡ take n text → n ≡ prefix_len p text → list_all p front ≡ true
taken_pass p text front e n = rw (e, n) (pass_first p text)
