-- What is told of a call's count, where so many calls are counted before it.
use Rattle.std.specs.Prelude.{◌≡◌, ℕ, ◌+◌, ◌<◌, ◌≤◌, Option, Some, None}
use Rattle.pb_recursion.specs.Counts.{Counted}
use Rattle.pb_counts.specs.Tallies.{capped, counted}
use Rattle.pb_counts.specs.declared.tally.Tally.{Tally}
use Rattle.pb_counts.specs.declared.count.TheConstants.{MOST_CALLS}

-- a tally of it, up to the top; or none where there are more calls than a run may have, with those before
abbrev pub Tells : ℕ → Counted → Option Tally → Type 0
Tells before c (Some t) = (capped (counted t) ≡ capped c) × (before + t.calls ≤ MOST_CALLS)
Tells before c None = MOST_CALLS < before + c.calls
