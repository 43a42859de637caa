-- The parts of a line: each stands after blanks, and is read as long as possible.
use Rattle.std.specs.Prelude.{ℕ, Bool, false, ◌&&◌, ◌||◌, ◌==◌, nat_eq, nat_le, List, [], ◌∷◌, length, take, drop, Option, Some, None, if◌then◌else◌}
use Rattle.std.specs.Char.{is_ascii_digit}
use Rattle.std.specs.List.{prefix_len, starts_with}
use Rattle.std.specs.Str.Parse.{digits_value}
use Rattle.pb_syntax.specs.Bytes.{begins_name, is_in_name}

-- a blank or a tab
abbrev pub is_blank : ℕ → Bool
is_blank b = b == 32 || b == 9

abbrev pub is_line_end : ℕ → Bool
is_line_end b = b == 10

abbrev pub past_blanks : List ℕ → List ℕ
past_blanks text = drop (prefix_len is_blank text) text

-- what stands after a sign or a keyword that stands first
abbrev pub stripped : List ℕ → List ℕ → Option (List ℕ)
stripped word text = if starts_with nat_eq text word then Some (drop (length word) text) else None

-- what stands after a sign or a keyword that comes next
abbrev pub after : List ℕ → List ℕ → Option (List ℕ)
after word text = stripped word (past_blanks text)

abbrev pub begins : (ℕ → Bool) → List ℕ → Bool
begins test [] = false
begins test (b ∷ _) = test b

-- the first bytes, and those after them
abbrev pub cut : ℕ → List ℕ → List ℕ × List ℕ
cut n text = (take n text, drop n text)

abbrev pub first_name : List ℕ → Option (List ℕ × List ℕ)
first_name text = if begins begins_name text then Some (cut (prefix_len is_in_name text) text) else None

-- a name that comes next, and what stands after it
abbrev pub name_next : List ℕ → Option (List ℕ × List ℕ)
name_next text = first_name (past_blanks text)

abbrev pub number_of : ℕ → List ℕ → Option (ℕ × List ℕ)
number_of n text = if nat_le 1 n && nat_le n 7 then Some (digits_value 10 (take n text), drop n text) else None

-- a number that comes next, of one to seven digits, and what stands after it
abbrev pub number_next : List ℕ → Option (ℕ × List ℕ)
number_next text = number_of (prefix_len is_ascii_digit (past_blanks text)) (past_blanks text)
