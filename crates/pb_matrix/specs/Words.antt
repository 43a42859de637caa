-- The words of a text, and what a word says as a number.
use Rattle.std.specs.Prelude.{ℕ, Bool, true, false, ◌&&◌, ◌||◌, ◌==◌, List, [], ◌∷◌, filter, Option, Some, None, is_none, ℤ, pos, neg_ℤ, if◌then◌else◌}
use Rattle.std.specs.List.{slice_split}
use Rattle.std.specs.Str.{all_ascii_digits}
use Rattle.std.specs.Str.Parse.{digits_value}
use Rattle.pb_values.specs.Checked.{fits_i64}

-- a blank or a tab
abbrev pub is_blank : ℕ → Bool
is_blank b = b == 32 || b == 9

-- what may stand between two numbers: a blank, a tab, CR or LF
abbrev pub is_gap : ℕ → Bool
is_gap b = is_blank b || (b == 13 || b == 10)

-- the end of a line
abbrev pub is_line_end : ℕ → Bool
is_line_end b = b == 10

abbrev pub has_bytes : List ℕ → Bool
has_bytes [] = false
has_bytes (_ ∷ _) = true

-- the words of a text, cut at the bytes that pass the test
abbrev pub words : (ℕ → Bool) → List ℕ → List (List ℕ)
words test text = filter has_bytes (slice_split test text)

-- one digit or more, and nothing else
abbrev pub is_digits : List ℕ → Bool
is_digits ds = has_bytes ds && all_ascii_digits ds

-- the number z, if the word is digits and z is within i64
abbrev pub in_cell : List ℕ → ℤ → Option ℤ
in_cell ds z = if is_digits ds && fits_i64 z then Some z else None

-- the number that a word spells: digits, maybe after a `-`
abbrev pub cell_number : List ℕ → Option ℤ
cell_number [] = None
cell_number (c ∷ cs) =
    if c == 45 then in_cell cs (neg_ℤ (pos (digits_value 10 cs)))
    else in_cell (c ∷ cs) (pos (digits_value 10 (c ∷ cs)))

-- a word that spells no number
abbrev pub is_faulty : List ℕ → Bool
is_faulty word = is_none (cell_number word)
