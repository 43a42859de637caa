-- What it means that reading tokens gives a verdict.
use Rattle.std.specs.Prelude.{ℕ, List}
use Rattle.pb_syntax.specs.declared.token.Token.{Token}
use Rattle.pb_syntax.specs.Faults.{Accepted, BadSyntaxAt, OverLimitAt}
use Rattle.pb_grammar.specs.Reading.{Verdict, accepted, bad, too_many}

-- the tokens are this program and nothing in it is too many; or no program goes on at this place; or this item is the
-- first that is too many
abbrev pub Means : List Token → ℕ → Verdict → Type 0
Means tokens end (accepted tree) = Accepted tree tokens
Means tokens end (bad left at) = BadSyntaxAt tokens end at
Means tokens end (too_many what left at) = OverLimitAt tokens what at
