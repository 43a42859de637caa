-- The turns of a loop.
use Rattle.std.specs.Prelude.{ℕ, ℤ, Result, Ok, Err}
use Rattle.pb_values.specs.declared.outcome.Kind.{Kind}
use Rattle.pb_statements.specs.declared.turns.Turns.{Turns}

-- how many there are
abbrev pub count_of : Result Turns Kind → Result ℕ Kind
count_of (Ok t) = Ok t.count
count_of (Err k) = Err k

-- the lowest number, and how many there are
abbrev pub all_turns : Result Turns Kind → Result (ℤ × ℕ) Kind
all_turns (Ok t) = Ok (t.low, t.count)
all_turns (Err k) = Err k
