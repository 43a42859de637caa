-- What stands first in a text, found from its first bytes.
use Rattle.std.specs.Prelude.{ℕ, ◌+◌, Bool, ◌&&◌, ◌==◌, nat_le, List, [], ◌∷◌, take, Option, Some, None, if◌then◌else◌}
use Rattle.std.specs.List.{prefix_len, list_all}
use Rattle.std.specs.Char.{is_ascii_digit}
use Rattle.std.specs.Str.Parse.{digits_value_after}
use Rattle.pb_syntax.specs.Bytes.{is_blank, begins_name, is_in_name, is_in_line, begins_slash}
use Rattle.pb_syntax.specs.Signs.{long_sign, short_sign, begins_comment}
use Rattle.pb_lexer.specs.declared.bytes.Run.{Run}
use Rattle.pb_lexer.specs.declared.bytes.Run.TheVariants.{InName, InNumber, InLine}
use Rattle.pb_syntax.specs.declared.token.Token.{Token}
use Rattle.pb_syntax.specs.declared.token.TokenWhat.TheVariants.{Word as AWord, Number as ANumber, Sign as ASign}
use Rattle.pb_lexer.specs.declared.piece.Front.{Front}
use Rattle.pb_lexer.specs.declared.piece.PieceKind.{PieceKind}
use Rattle.pb_lexer.specs.declared.piece.PieceKind.TheVariants.{Gap, Word, Number, Sign}

abbrev pub in_run : Run → ℕ → Bool
in_run InName = is_in_name
in_run InNumber = is_ascii_digit
in_run InLine = is_in_line

-- `n` bytes, and those before the first `*/`
abbrev pub close_from : ℕ → List ℕ → Option ℕ
close_from n [] = None
close_from n (b ∷ rest) = if b == 42 && begins_slash rest then Some n else close_from (n + 1) rest

-- the value of digits that follow those of n, if it is at most the greatest number
abbrev pub value_after : ℕ → List ℕ → Option ℕ
value_after n ds =
    if list_all is_ascii_digit ds && nat_le (digits_value_after 10 n ds) 9223372036854775807 then Some (digits_value_after 10 n ds)
    else None

abbrev pub value_within : List ℕ → Option ℕ
value_within ds = value_after 0 ds

abbrev pub number_of : ℕ → Option ℕ → Option Front
number_of size (Some value) = Some (record { kind = Number value; size = size })
number_of size None = None

abbrev pub number_read : List ℕ → Option Front
number_read text = number_of (prefix_len is_ascii_digit text) (value_within (take (prefix_len is_ascii_digit text) text))

abbrev pub word_read : List ℕ → Option Front
word_read after = Some (record { kind = Word; size = 1 + prefix_len is_in_name after })

abbrev pub closed : Option ℕ → Option Front
closed (Some size) = Some (record { kind = Gap; size = 4 + size })
closed None = None

-- a comment, by what stands after its `/`
abbrev pub comment_read : List ℕ → Option Front
comment_read [] = None
comment_read (b ∷ inside) =
    if b == 47 then Some (record { kind = Gap; size = 2 + prefix_len is_in_line inside })
    else (if b == 42 then closed (close_from 0 inside) else None)

abbrev pub sign_of : ℕ → Option ℕ → Option Front
sign_of size (Some place) = Some (record { kind = Sign place; size = size })
sign_of size None = None

-- a sign of two bytes, a comment, or else a sign of one byte
abbrev pub two_read : ℕ → ℕ → List ℕ → Option ℕ → Option Front
two_read a b after (Some place) = Some (record { kind = Sign place; size = 2 })
two_read a b after None = if begins_comment a b then comment_read (b ∷ after) else sign_of 1 (short_sign a)

abbrev pub sign_read : ℕ → List ℕ → Option Front
sign_read a [] = sign_of 1 (short_sign a)
sign_read a (b ∷ after) = two_read a b after (long_sign a b)

-- the blank, comment or token that stands first
abbrev pub piece_read : List ℕ → Option Front
piece_read [] = None
piece_read (b ∷ after) =
    if is_blank b then Some (record { kind = Gap; size = 1 })
    else (if begins_name b then word_read after
    else (if is_ascii_digit b then number_read (b ∷ after)
    else sign_read b after))

-- the token of some bytes at a place, if they are one
abbrev pub tokens_of : ℕ → List ℕ → PieceKind → List Token
tokens_of at spelled Gap = []
tokens_of at spelled Word = record { at = at; what = AWord (record { bytes = spelled; at = at }) } ∷ []
tokens_of at spelled (Number value) = record { at = at; what = ANumber value } ∷ []
tokens_of at spelled (Sign place) = record { at = at; what = ASign place } ∷ []
