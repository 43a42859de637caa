-- Counts that stop at a top, which is above every limit of a run.
use Rattle.std.specs.Prelude.{◌≤◌, min}
use Rattle.pb_recursion.specs.Counts.{Counted}
use Rattle.pb_counts.specs.declared.tally.Tally.{Tally}
use Rattle.pb_counts.specs.declared.tally.TheConstants.{TALLY_TOP}

-- what a tally counts
abbrev pub counted : Tally → Counted
counted t = record { calls = t.calls; side = t.side; cells = t.cells }

-- the top in the place of each greater number
abbrev pub capped : Counted → Counted
capped c = record { calls = min c.calls TALLY_TOP; side = min c.side TALLY_TOP; cells = min c.cells TALLY_TOP }

-- no number is above the top
pub record IsCapped (c : Counted) : Type 0 where
  pub calls : c.calls ≤ TALLY_TOP
  pub side : c.side ≤ TALLY_TOP
  pub cells : c.cells ≤ TALLY_TOP
