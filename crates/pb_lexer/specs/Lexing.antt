-- Which texts have tokens, and which have none.
use Rattle.std.specs.Prelude.{ℕ, ◌≤◌, ◌<◌, List, length}
use Rattle.pb_syntax.specs.declared.limits.TheConstants.{MOST_BYTES}
use Rattle.pb_syntax.specs.declared.token.Token.{Token}
use Rattle.pb_syntax.specs.declared.refusal.Refusal.{Refusal}
use Rattle.pb_syntax.specs.declared.refusal.Refusal.TheVariants.{TooLong, BadToken}
use Rattle.pb_syntax.specs.Tokens.{Spells, BadTokenAt}

-- the text isn't too long, and these are its tokens
pub record IsLexed (text : List ℕ) (tokens : List Token) : Type 0 where
  pub short : length text ≤ MOST_BYTES
  pub spelled : Spells text tokens

-- the text is too long; or it isn't, and this byte begins no token, blank or comment
abbrev pub IsUnlexed : List ℕ → Refusal → Type 0
IsUnlexed text TooLong = MOST_BYTES < length text
IsUnlexed text (BadToken at) = (length text ≤ MOST_BYTES) × BadTokenAt text at
IsUnlexed text _ = ⊥
