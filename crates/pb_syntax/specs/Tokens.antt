-- The tokens of a text.
use Rattle.std.specs.Prelude.{◌≡◌, ℕ, ◌+◌, ◌≤◌, List, [], ◌∷◌, ◌++◌, length, Some, IsTrue, IsFalse}
use Rattle.std.specs.List.{list_all}
use Rattle.std.specs.Char.{is_ascii_digit}
use Rattle.std.specs.Str.Parse.{digits_value}
use Rattle.pb_syntax.specs.declared.token.Token.{Token}
use Rattle.pb_syntax.specs.declared.token.TokenWhat.TheVariants.{Word, Number, Sign}
use Rattle.pb_syntax.specs.declared.limits.TheConstants.{MOST_VALUE}
use Rattle.pb_syntax.specs.Bytes.{is_blank, begins_name, is_in_name, is_in_line, EndsBefore, has_close}
use Rattle.pb_syntax.specs.Signs.{long_sign, short_sign, goes_on}

-- bytes at a place that are a blank, a comment or a token, with others after them: the place, the bytes, the
-- others, and the token, if it is one
pub data Piece : ℕ → List ℕ → List ℕ → List Token → Type 0 where
  blank : {at b : ℕ} {after : List ℕ} → IsTrue (is_blank b) → Piece at (b ∷ []) after []
  line_comment : {at : ℕ} {inside after : List ℕ}
      → IsTrue (list_all is_in_line inside) → EndsBefore is_in_line after
      → Piece at (47 ∷ 47 ∷ inside) after []
  block_comment : {at : ℕ} {after : List ℕ} (inside : List ℕ)
      → IsFalse (has_close inside)
      → Piece at (47 ∷ 42 ∷ (inside ++ 42 ∷ 47 ∷ [])) after []
  word : {at b : ℕ} {more after : List ℕ}
      → IsTrue (begins_name b) → IsTrue (list_all is_in_name more) → EndsBefore is_in_name after
      → Piece at (b ∷ more) after (record { at = at; what = Word (record { bytes = b ∷ more; at = at }) } ∷ [])
  number : {at d : ℕ} {more after : List ℕ}
      → IsTrue (is_ascii_digit d) → IsTrue (list_all is_ascii_digit more) → EndsBefore is_ascii_digit after
      → digits_value 10 (d ∷ more) ≤ MOST_VALUE
      → Piece at (d ∷ more) after (record { at = at; what = Number (digits_value 10 (d ∷ more)) } ∷ [])
  two_byte_sign : {at a b place : ℕ} {after : List ℕ}
      → long_sign a b ≡ Some place
      → Piece at (a ∷ b ∷ []) after (record { at = at; what = Sign place } ∷ [])
  one_byte_sign : {at a place : ℕ} {after : List ℕ}
      → short_sign a ≡ Some place → EndsBefore (goes_on a) after
      → Piece at (a ∷ []) after (record { at = at; what = Sign place } ∷ [])

-- bytes from a place on, with others after them, that are pieces, one after the other, with these tokens
pub data Pieces : ℕ → List ℕ → List ℕ → List Token → Type 0 where
  none : {at : ℕ} {after : List ℕ} → Pieces at [] after []
  one_more : {at : ℕ} {first rest after : List ℕ} {here later : List Token}
      → Piece at first (rest ++ after) here → Pieces (at + length first) rest after later
      → Pieces at (first ++ rest) after (here ++ later)

-- the whole text spells just these tokens
abbrev pub Spells : List ℕ → List Token → Type 0
Spells text tokens = Pieces 0 text [] tokens

-- all before the place is blanks, comments and tokens, and the byte there begins none
pub record BadTokenAt (text : List ℕ) (at : ℕ) : Type 0 where
  pub front : List ℕ
  pub fault : ℕ
  pub after : List ℕ
  pub tokens : List Token
  pub parts : text ≡ front ++ (fault ∷ after)
  pub before : Pieces 0 front (fault ∷ after) tokens
  pub place : at ≡ length front
  pub begins_none : (first rest : List ℕ) (here : List Token) → fault ∷ after ≡ first ++ rest → Piece at first rest here → ⊥
