-- The ranges of a command's numbers.
use Rattle.std.specs.Prelude.{ℕ, ◌≤◌, unwrap_or}
use Rattle.pb_words.specs.declared.ask.Ask.{Ask}
use Rattle.pb_words.specs.declared.ask.Ask.TheVariants.{Check, Choices, Run, Tune, Demo}
use Rattle.pb_words.specs.declared.options.Setting.{Setting}
use Rattle.pb_words.specs.declared.options.Setting.TheVariants.{Workers, Depth, Grain, OnPool, Trace, UpTo}
use Rattle.pb_words.specs.declared.options.Settings.{Settings}

abbrev pub IsWithin : ℕ → ℕ → ℕ → Type 0
IsWithin least most n = (least ≤ n) × (n ≤ most)

-- the numbers of what is asked for
abbrev pub IsInRange : Ask → Type 0
IsInRange Check = Unit {0}
IsInRange Choices = Unit {0}
IsInRange (Run workers depth grain pool trace) = IsWithin 1 64 workers × (depth ≤ 64) × IsWithin 1 1048576 grain
IsInRange (Tune up_to) = IsWithin 1 1048576 up_to
IsInRange (Demo seed size workers) = IsWithin 1 256 size × IsWithin 1 64 workers

-- the number of an option
abbrev pub HasRange : Setting → Type 0
HasRange (Workers n) = IsWithin 1 64 n
HasRange (Depth n) = n ≤ 64
HasRange (Grain n) = IsWithin 1 1048576 n
HasRange (OnPool p) = Unit {0}
HasRange Trace = Unit {0}
HasRange (UpTo n) = IsWithin 1 1048576 n

-- the numbers that are given, and the defaults of the others
pub record HaveRanges (s : Settings) : Type 0 where
  pub workers : IsWithin 1 64 (unwrap_or s.workers 1)
  pub depth : unwrap_or s.depth 64 ≤ 64
  pub grain : IsWithin 1 1048576 (unwrap_or s.grain 64)
  pub up_to : IsWithin 1 1048576 (unwrap_or s.up_to 64)
