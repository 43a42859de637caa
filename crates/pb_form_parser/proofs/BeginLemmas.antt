-- Where an item begins that may be one too many.
use Rattle.std.proofs.Common.{◌≡◌, ◌<◌, ℕ, List, [], ◌∷◌, Option, None, length, refl, ap, arith}
use Rattle.pb_syntax.specs.declared.token.Token.{Token}
use Rattle.pb_syntax.specs.declared.refusal.Item.{Item}
use Rattle.pb_syntax.specs.Kinds.{kind_of}
use Rattle.pb_grammar.specs.Want.{Want, begin}
use Rattle.pb_syntax.specs.Limits.{limited}
use Rattle.pb_grammar.specs.Reading.{step, marked, on, read}

pub limited_within : (most before : ℕ) (item : Item) → before < most → limited most before item ≡ None
limited_within most before item h = grind arith

pub begin_within : (end : ℕ) (ts : List Token) (most before : ℕ) (item : Item) (w : Want) → before < most
    → read end ts (begin (limited most before item) w) ≡ read end ts w
begin_within end [] most before item w h = refl
begin_within end (t ∷ ts) most before item w h = ap (λ (m : Option Item). on (marked t.at m (step w (kind_of t) t)) (length (t ∷ ts)) t.at (read end ts)) (limited_within most before item h)
