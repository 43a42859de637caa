-- Tokens as they are written, their places aside, and lists of them that a text can have side by side.
use Rattle.std.proofs.Common.{◌≡◌, ℕ, ◌≤◌, ◌<◌, Bool, false, ◌==◌, List, [], ◌∷◌}
use Rattle.pb_syntax.specs.declared.token.Token.{Token}
use Rattle.pb_syntax.specs.declared.token.TokenWhat.{TokenWhat}
use Rattle.pb_syntax.specs.declared.token.TokenWhat.TheVariants as what
use Rattle.pb_syntax.specs.declared.limits.TheConstants.{MOST_VALUE}
use Rattle.pb_syntax.specs.declared.sign.TheConstants.{SIGNS}
use Rattle.pb_syntax.specs.Lexemes.{IsWordText}
use Rattle.pb_prog.specs.Spelling.{Written, word, numeral, sign_at}

abbrev pub written_as : TokenWhat → Written
written_as (what.Word n) = word n.bytes
written_as (what.Number n) = numeral n
written_as (what.Sign p) = sign_at p

-- these tokens up to the rest are written so
pub data Takes : List Written → List Token → List Token → Type 0 where
  nothing : {rest : List Token} → Takes [] rest rest
  one : {w : Written} {ws : List Written} {t : Token} {all rest : List Token}
      → written_as t.what ≡ w → Takes ws all rest → Takes (w ∷ ws) (t ∷ all) rest

-- a token that a text can have
abbrev pub CanBe : Written → Type 0
CanBe (word w) = IsWordText w
CanBe (numeral n) = n ≤ MOST_VALUE
CanBe (sign_at p) = p < SIGNS

abbrev pub is_dot : Written → Bool
is_dot (word w) = false
is_dot (numeral n) = false
is_dot (sign_at p) = p == 8

-- tokens that a text can have, where a word stands after each dot
pub data Plain : List Written → Type 0 where
  none : Plain []
  plain : {w : Written} {ws : List Written} → CanBe w → is_dot w ≡ false → Plain ws → Plain (w ∷ ws)
  member : {w : List ℕ} {ws : List Written} → IsWordText w → Plain ws → Plain (sign_at 8 ∷ word w ∷ ws)
