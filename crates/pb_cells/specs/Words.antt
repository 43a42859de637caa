-- Outcomes in two words: a mark, which tells a number or the kind of a trap, and what else there is to tell.
use Rattle.std.specs.Prelude.{ℕ, ◌+◌, ◌*◌, ◌^◌, ◌/◌, ◌%◌, ◌==◌, if◌then◌else◌}
use Rattle.std.specs.Int.{cast_signed, cast_unsigned, w64}
use Rattle.pb_values.specs.declared.outcome.Kind.{Kind}
use Rattle.pb_values.specs.declared.outcome.Kind.TheVariants as kind
use Rattle.pb_values.specs.declared.outcome.Outcome.{Outcome}
use Rattle.pb_values.specs.declared.outcome.Outcome.TheVariants.{Value, Trapped}
use Rattle.pb_values.specs.declared.outcome.Trap.{Trap}

-- the mark of a trap of this kind
abbrev pub kind_mark : Kind → ℕ
kind_mark kind.Overflow = 2
kind_mark kind.DivideByZero = 3
kind_mark kind.OutOfView = 4
kind_mark kind.LoopLimit = 5
kind_mark kind.BadShape = 6
kind_mark kind.DepthEnded = 7

abbrev pub kind_at : ℕ → Kind
kind_at n =
    if n == 2 then kind.Overflow else if n == 3 then kind.DivideByZero else if n == 4 then kind.OutOfView
    else if n == 5 then kind.LoopLimit else if n == 6 then kind.BadShape else kind.DepthEnded

-- the transform, the rule and the place of a trap as one word
unfoldable pub trap_word : Trap → ℕ
trap_word t = t.transform * 2 ^ 51 + t.rule * 2 ^ 46 + t.y * 2 ^ 23 + t.x

unfoldable pub trap_in : Kind → ℕ → Trap
trap_in k w =
    record { kind = k; transform = w / 2 ^ 23 / 2 ^ 23 / 32; rule = w / 2 ^ 23 / 2 ^ 23 % 32; x = w % 2 ^ 23; y = w / 2 ^ 23 % 2 ^ 23 }

-- the mark of an outcome; 0 is the mark of a cell that isn't written
unfoldable pub mark_of : Outcome → ℕ
mark_of (Value z) = 1
mark_of (Trapped t) = kind_mark t.kind

unfoldable pub word_of : Outcome → ℕ
word_of (Value z) = cast_unsigned w64 z
word_of (Trapped t) = trap_word t

-- the outcome that two words tell
unfoldable pub outcome_in : ℕ → ℕ → Outcome
outcome_in mark w = if mark == 1 then Value (cast_signed w64 w) else Trapped (trap_in (kind_at mark) w)
