-- The next token.
use Rattle.std.specs.Prelude.{ℕ, Bool, false, List, [], ◌∷◌}
use Rattle.std.specs.Str.{bytes_eq}
use Rattle.pb_syntax.specs.declared.token.Token.{Token}
use Rattle.pb_syntax.specs.declared.kind.TokenKind.{TokenKind}
use Rattle.pb_syntax.specs.declared.kind.TokenKind.TheVariants as k
use Rattle.pb_syntax.specs.Kinds.{Is, kind_of, name_in}

abbrev pub next_kind : List Token → TokenKind
next_kind [] = k.End
next_kind (t ∷ _) = kind_of t

abbrev pub next_place : ℕ → List Token → ℕ
next_place end [] = end
next_place end (t ∷ _) = t.at

-- a token that is this name
abbrev pub word_is : List ℕ → TokenKind → Token → Bool
word_is w k.Name t = bytes_eq (name_in t).bytes w
word_is w _ t = false

-- whether the next token is this name
abbrev pub next_is : List ℕ → List Token → Bool
next_is w [] = false
next_is w (t ∷ _) = word_is w (kind_of t) t

-- the next token is of this kind
abbrev pub Sees : TokenKind → List Token → Type 0
Sees kind [] = ⊥
Sees kind (t ∷ _) = Is kind t
