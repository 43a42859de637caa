-- Digits before a gap, one more digit at a time.
use Rattle.std.proofs.Common.{◌≡◌, ℕ, ◌+◌, ◌-◌, ◌*◌, ◌<◌, ◌^◌, true, false, List, [], ◌∷◌, ℤ, pos, neg_ℤ, Some, refl, ◌∙◌, length, get_or, take, drop, map, arith}
use Rattle.std.specs.Char.{is_ascii_digit}
use Rattle.std.specs.List.{position_or_len, before_first, after_first}
use Rattle.std.proofs.Math.Numerals.{one-add}
use Rattle.std.proofs.lemmas.List.{at_drop_more, take_rest}
use Rattle.std.proofs.lemmas.Bool.Decides.{nat_tests}
use Rattle.pb_matrix.specs.Digits.{magnitude, magnitude_after}
use Rattle.pb_matrix.specs.Words.{is_gap, words, cell_number}
use Rattle.pb_matrix.proofs.DigitLemmas.{digit_more}
use Rattle.pb_matrix.proofs.WordLemmas.{one_word}

digit_no_gap : (c : ℕ) → is_ascii_digit c ≡ true → is_gap c ≡ false
digit_no_gap c e = grind (arith, nat_tests)

-- no gap stands at a digit
pub gap_after : (ds : List ℕ) (i : ℕ) → i < length ds → is_ascii_digit (get_or ds i 0) ≡ true
    → position_or_len is_gap (drop i ds) ≡ 1 + position_or_len is_gap (drop (i + 1) ds)
gap_after ds i h e = at_drop_more (position_or_len is_gap) ds i 0 h ∙ rw (digit_no_gap (get_or ds i 0) e) refl

-- a digit before a gap is one of the digits that are read
pub digit_before_gap : (v i : ℕ) (ds : List ℕ) → i < length ds → is_ascii_digit (get_or ds i 0) ≡ true
    → magnitude_after v (before_first is_gap (drop i ds)) ≡ magnitude_after (v * 10 + (get_or ds i 0 - 48)) (before_first is_gap (drop (i + 1) ds))
digit_before_gap v i ds h e =
    at_drop_more (λ xs. magnitude_after v (before_first is_gap xs)) ds i 0 h
    ∙ rw (digit_no_gap (get_or ds i 0) e, one-add) (digit_more v (get_or ds i 0) (before_first is_gap (drop (i + 1) ds)) e)

-- a minus before digits
magnitude_negated : (ds : List ℕ) (v : ℕ) → magnitude ds ≡ Some v → cell_number (45 ∷ ds) ≡ Some (neg_ℤ (pos v))
magnitude_negated ds v e = grind (arith, nat_tests)

pub minus_number : (text : List ℕ) (v : ℕ) (z : ℤ) → get_or text 0 0 ≡ 45 → magnitude (before_first is_gap (take (length text - 1) (drop 1 text))) ≡ Some v → z ≡ neg_ℤ (pos v)
    → cell_number (before_first is_gap text) ≡ Some z
minus_number [] v z minus e n = absurd (omega (arith, minus))
minus_number (c ∷ cs) v z minus e n = rw (minus, one-add, n) (magnitude_negated (before_first is_gap cs) v (rw take_rest at e))

-- a text as it is
whole_text : (text : List ℕ) → take (length text - 0) (drop 0 text) ≡ text
whole_text text = take_rest text 0

magnitude_alone : (ds : List ℕ) (v : ℕ) → magnitude ds ≡ Some v → v < 2 ^ 63 → cell_number ds ≡ Some (pos v)
magnitude_alone [] v e h = absurd (cc)
magnitude_alone (c ∷ cs) v e h = grind (arith, nat_tests)

pub plain_number : (text : List ℕ) (v : ℕ) (z : ℤ) → magnitude (before_first is_gap (take (length text - 0) (drop 0 text))) ≡ Some v → v < 2 ^ 63 → z ≡ pos v → cell_number (before_first is_gap text) ≡ Some z
plain_number text v z e most n = rw (n) (magnitude_alone (before_first is_gap text) v (rw (whole_text text) at e) most)

pub plain_after : (text after : List ℕ) → after ≡ after_first is_gap (take (length text - 0) (drop 0 text)) → after ≡ after_first is_gap text
plain_after text after e = rw (whole_text text) at e

-- a number before a gap is the first word
word_some : (w : List ℕ) (z : ℤ) → cell_number w ≡ Some z → 0 < length w
word_some [] z e = absurd (cc)
word_some (_ ∷ _) z e = omega arith

pub number_word : (xs after : List ℕ) (z : ℤ) → cell_number (before_first is_gap xs) ≡ Some z → after ≡ after_first is_gap xs
    → map cell_number (words is_gap xs) ≡ Some z ∷ map cell_number (words is_gap after)
number_word xs after z e b =
    rw (one_word is_gap xs (before_first is_gap xs) after refl b (word_some (before_first is_gap xs) z e), e) refl
