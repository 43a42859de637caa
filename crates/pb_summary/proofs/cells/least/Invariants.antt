use Rattle.std.proofs.Common.{◌≡◌, take}
use Rattle.std.specs.Int.{int_min}
use Rattle.std.specs.List.{fold}
use Rattle.pb_summary.proofs.cells.least.Given as goal

abbrev pub invariant-loop-cell : goal.invariant-loop-cell
invariant-loop-cell l = l.least ≡ fold int_min l.initial.least (take l.cell-index l.others)
