-- What a token is to the grammar.
use denote.Enum.Bare.{sameb}
use Rattle.std.specs.Prelude.{◌≡◌, ℕ, ◌+◌, Bool, ◌==◌, List, [], ◌∷◌, if◌then◌else◌}
use Rattle.std.specs.Str.{bytes_eq}
use Rattle.pb_values.specs.Name.{NameValue}
use Rattle.pb_syntax.specs.declared.token.Token.{Token}
use Rattle.pb_syntax.specs.declared.token.TokenWhat.{TokenWhat}
use Rattle.pb_syntax.specs.declared.token.TokenWhat.TheVariants as what
use Rattle.pb_syntax.specs.declared.kind.TokenKind.{TokenKind}
use Rattle.pb_syntax.specs.declared.kind.TokenKind.TheVariants as k
use Rattle.pb_syntax.specs.contracts.kind.TokenKind.{the_type}
use Rattle.pb_syntax.specs.Signs.{sign_table, keyword_table}

-- the kind beside these bytes; any other word is a name
abbrev pub kind_by : List ℕ → List (List ℕ × TokenKind) → TokenKind
kind_by w [] = k.Name
kind_by w (row ∷ rest) = if bytes_eq w row.0 then row.1 else kind_by w rest

abbrev pub word_kind : List ℕ → TokenKind
word_kind w = kind_by w keyword_table

-- the kind at a place of the table, whose first row has the place `first`
abbrev pub kind_at : ℕ → ℕ → List (List ℕ × TokenKind) → TokenKind
kind_at p first [] = k.Unknown
kind_at p first (row ∷ rest) = if p == first then row.1 else kind_at p (first + 1) rest

abbrev pub sign_kind : ℕ → TokenKind
sign_kind p = kind_at p 0 sign_table

abbrev pub kind_of_what : TokenWhat → TokenKind
kind_of_what (what.Word n) = word_kind n.bytes
kind_of_what (what.Number n) = k.Number
kind_of_what (what.Sign p) = sign_kind p

abbrev pub kind_of : Token → TokenKind
kind_of t = kind_of_what t.what

-- whether two kinds are one
abbrev pub same_kind : TokenKind → TokenKind → Bool
same_kind a b = sameb the_type a b

abbrev pub Is : TokenKind → Token → Type 0
Is kind t = kind_of t ≡ kind

-- the name that a token is
abbrev pub name_in_what : TokenWhat → NameValue
name_in_what (what.Word n) = n
name_in_what (what.Number n) = record { bytes = []; at = 0 }
name_in_what (what.Sign p) = record { bytes = []; at = 0 }

abbrev pub name_in : Token → NameValue
name_in t = name_in_what t.what

-- the number that a token is
abbrev pub number_in_what : TokenWhat → ℕ
number_in_what (what.Word n) = 0
number_in_what (what.Number n) = n
number_in_what (what.Sign p) = 0

abbrev pub number_in : Token → ℕ
number_in t = number_in_what t.what
