use Rattle.std.specs.Prelude.{◌≡◌, ℕ, ◌<◌, ◌≤◌, List, ◌++◌, length, take, Option, Result, Ok, Err}
use Rattle.std.specs.Option.{option_map}
use Rattle.pb_outside.specs.Count.{RoseBy}
use Rattle.pb_outside.specs.declared.sink.Refused.{Refused}

-- what is told of a sink has these bytes more
abbrev pub told_with : List ℕ → Option (List ℕ) → Option (List ℕ)
told_with bytes told = option_map (λ written. written ++ bytes) told

-- the first bytes of a piece, at least one, are put; or nothing is
abbrev pub Puts : List ℕ → Result ℕ Refused → Option (List ℕ) → Option (List ℕ) → Type 0
Puts piece (Ok count) before now = (0 < count) × (count ≤ length piece) × (now ≡ told_with (take count piece) before)
Puts piece (Err refused) before now = now ≡ before

-- the count of faults rises in a put that is refused, and in no other
abbrev pub CountsPutFault : Result ℕ Refused → ℕ → ℕ → Type 0
CountsPutFault (Ok count) before now = now ≡ before
CountsPutFault (Err refused) before now = RoseBy 1 before now
