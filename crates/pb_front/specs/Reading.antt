-- How a program text is read, and when it is refused.
use Rattle.std.specs.Prelude.{ℕ, ◌≤◌, ◌<◌, List, length}
use Rattle.pb_syntax.specs.declared.token.Token.{Token}
use Rattle.pb_syntax.specs.declared.refusal.Refusal.{Refusal}
use Rattle.pb_syntax.specs.declared.refusal.Refusal.TheVariants.{TooLong, BadToken, BadSyntax, OverLimit}
use Rattle.pb_syntax.specs.Tokens.{Spells, BadTokenAt}
use Rattle.pb_syntax.specs.Trees.{TransformTree}
use Rattle.pb_syntax.specs.Faults.{Accepted, BadSyntaxAt, OverLimitAt}
use Rattle.pb_syntax.specs.declared.limits.TheConstants.{MOST_BYTES}

-- the text isn't too long, and its tokens spell this tree, in which nothing is too many
pub record IsRead (text : List ℕ) (tree : List TransformTree) : Type 0 where
  pub short : length text ≤ MOST_BYTES
  pub tokens : List Token
  pub spelled : Spells text tokens
  pub accepted : Accepted tree tokens

-- the text isn't too long, and its tokens have this fault
pub record HasFault (text : List ℕ) (Fault : List Token → Type 0) : Type 0 where
  pub short : length text ≤ MOST_BYTES
  pub tokens : List Token
  pub spelled : Spells text tokens
  pub faulty : Fault tokens

-- why a text is refused: its length, a byte that begins no token, a token at which no program goes on, or an item too many
abbrev pub IsRefused : List ℕ → Refusal → Type 0
IsRefused text TooLong = MOST_BYTES < length text
IsRefused text (BadToken at) = (length text ≤ MOST_BYTES) × BadTokenAt text at
IsRefused text (BadSyntax at) = HasFault text (λ tokens. BadSyntaxAt tokens (length text) at)
IsRefused text (OverLimit what at) = HasFault text (λ tokens. OverLimitAt tokens what at)
IsRefused text _ = ⊥
