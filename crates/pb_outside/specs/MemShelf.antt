use Rattle.std.specs.Prelude.{◌≡◌, ℕ, ◌+◌, List, length, map, if◌then◌else◌, Bool, true, false, ◌==◌, Result, Ok, Err, Vec, String, string_bytes}
use Rattle.std.specs.declared.alloc.AllocError.{AllocError}
use Rattle.std.specs.List.{list_any}
use Rattle.std.specs.declared.alloc.Global.{Global}
use Rattle.pb_outside.specs.Count.{count_after}
use Rattle.pb_outside.specs.Shelf.{Files}
use Rattle.pb_outside.specs.declared.shelf.Take.{Take}
use Rattle.pb_outside.specs.declared.shelf.Take.TheVariants.{Got, Long, Missing, Failed}

-- what a shelf in memory holds: its files, the numbers of the calls that fail, and its counts
pub record MemShelfState : Type 0 where
  pub files : Files
  pub fail : List ℕ
  pub calls : ℕ
  pub faults : ℕ
  pub taken : ℕ

-- the entries of a finite map, from a vector of pairs
abbrev pub entries_of : List (String Global × Vec ℕ Global) → Files
entries_of pairs = map (λ pair. (string_bytes pair.0, pair.1.items)) pairs

-- whether taking a file failed
abbrev pub is_failed : Result Take AllocError → Bool
is_failed (Ok (Got bytes)) = false
is_failed (Ok Long) = false
is_failed (Ok Missing) = false
is_failed (Ok Failed) = true
is_failed (Err e) = false

-- how many bytes a call took, as its shelf counts them
abbrev pub bytes_counted : ℕ → Result Take AllocError → ℕ → ℕ
bytes_counted limit (Ok (Got bytes)) before = count_after (length bytes.items) before
bytes_counted limit (Ok Long) before = count_after (limit + 1) before
bytes_counted limit (Ok Missing) before = before
bytes_counted limit (Ok Failed) before = before
bytes_counted limit (Err e) before = before

-- the call fails exactly where its number is in the list, its counts are exact, and the next call has the next number
pub record CountsCall (old new : MemShelfState) (limit : ℕ) (result : Result Take AllocError) : Type 0 where
  pub fails : is_failed result ≡ list_any (λ number. number == old.calls) old.fail
  pub faults : new.faults ≡ (if is_failed result then count_after 1 old.faults else old.faults)
  pub bytes : new.taken ≡ bytes_counted limit result old.taken
  pub next : new.calls ≡ count_after 1 old.calls
  pub same : new.fail ≡ old.fail
