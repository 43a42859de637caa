-- Tokens that a text can have.
use Rattle.std.specs.Prelude.{◌≡◌, ℕ, ◌+◌, ◌≤◌, ◌<◌, List, [], ◌∷◌, IsTrue}
use Rattle.std.specs.List.{list_all}
use Rattle.pb_syntax.specs.declared.limits.TheConstants.{MOST_VALUE}
use Rattle.pb_syntax.specs.declared.sign.TheConstants.{SIGNS}
use Rattle.pb_syntax.specs.declared.token.Token.{Token}
use Rattle.pb_syntax.specs.declared.token.TokenWhat.{TokenWhat}
use Rattle.pb_syntax.specs.declared.token.TokenWhat.TheVariants.{Word, Number, Sign}
use Rattle.pb_syntax.specs.Bytes.{begins_name, is_in_name}

-- the bytes of a name or keyword
abbrev pub IsWordText : List ℕ → Type 0
IsWordText [] = ⊥
IsWordText (b ∷ more) = IsTrue (begins_name b) × IsTrue (list_all is_in_name more)

-- a word that knows its place, a number of at most the greatest value, or a sign of the list
abbrev pub IsLexemeAt : ℕ → TokenWhat → Type 0
IsLexemeAt at (Word name) = IsWordText name.bytes × (name.at ≡ at)
IsLexemeAt at (Number value) = value ≤ MOST_VALUE
IsLexemeAt at (Sign place) = place < SIGNS

abbrev pub AreLexemes : List Token → Type 0
AreLexemes [] = Unit {0}
AreLexemes (t ∷ rest) = IsLexemeAt t.at t.what × AreLexemes rest

-- places rise from a least one, and stay before an end
abbrev pub RiseBetween : ℕ → ℕ → List Token → Type 0
RiseBetween least end [] = Unit {0}
RiseBetween least end (t ∷ rest) = (least ≤ t.at) × (t.at < end) × RiseBetween (t.at + 1) end rest
