use Rattle.std.specs.Prelude.{◌≡◌, ℕ, ◌-◌, min, List, length, Bool, ◌||◌, ◌==◌, nat_le, if◌then◌else◌, Result, Ok, Err}
use Rattle.std.specs.List.{list_any}
use Rattle.pb_outside.specs.Count.{count_after}
use Rattle.pb_outside.specs.declared.sink.Refused.{Refused}

-- what a sink in memory holds: its bytes, its room, the most bytes of a put, the numbers of the calls that
-- fail, and its counts
pub record MemSinkState : Type 0 where
  pub written : List ℕ
  pub room : ℕ
  pub most : ℕ
  pub fail : List ℕ
  pub calls : ℕ
  pub faults : ℕ

-- whether the next put is a fault: its number is in the list, or no room is left
abbrev pub put_fails : MemSinkState → Bool
put_fails s = list_any (λ number. number == s.calls) s.fail || nat_le s.room (length s.written)

-- how a put of a piece this long ends: it takes as much as the most and the room left allow
abbrev pub put_result : MemSinkState → ℕ → Result ℕ Refused
put_result s len = if put_fails s then Err (record {}) else Ok (min len (min s.most (s.room - length s.written)))

-- after a put the count of faults is exact, the next call has the next number, and the rest is as it was
pub record CountsPut (old new : MemSinkState) : Type 0 where
  pub faults : new.faults ≡ (if put_fails old then count_after 1 old.faults else old.faults)
  pub next : new.calls ≡ count_after 1 old.calls
  pub room : new.room ≡ old.room
  pub most : new.most ≡ old.most
  pub fail : new.fail ≡ old.fail
