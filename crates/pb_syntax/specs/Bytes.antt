-- The bytes of which blanks, names and comments are made.
use Rattle.std.specs.Prelude.{ℕ, Bool, false, ◌&&◌, ◌||◌, ◌==◌, List, [], ◌∷◌, not, IsFalse}
use Rattle.std.specs.Char.{is_ascii_alphabetic, is_ascii_digit}

-- a space, a tab, CR or LF
abbrev pub is_blank : ℕ → Bool
is_blank b = (b == 32 || b == 9) || (b == 13 || b == 10)

-- a letter, `A` to `Z` or `a` to `z`, or `_`
abbrev pub begins_name : ℕ → Bool
begins_name b = is_ascii_alphabetic b || b == 95

-- a letter, a digit or `_`
abbrev pub is_in_name : ℕ → Bool
is_in_name b = begins_name b || is_ascii_digit b

-- any byte but LF
abbrev pub is_in_line : ℕ → Bool
is_in_line b = not (b == 10)

-- what stands next, if anything does, fails the test
abbrev pub EndsBefore : (ℕ → Bool) → List ℕ → Type 0
EndsBefore test [] = Unit {0}
EndsBefore test (b ∷ _) = IsFalse (test b)

-- a `/` stands first
abbrev pub begins_slash : List ℕ → Bool
begins_slash [] = false
begins_slash (b ∷ _) = b == 47

-- somewhere stands a `*` with a `/` after it
abbrev pub has_close : List ℕ → Bool
has_close [] = false
has_close (b ∷ rest) = (b == 42 && begins_slash rest) || has_close rest
