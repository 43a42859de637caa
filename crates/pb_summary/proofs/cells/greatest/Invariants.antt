use Rattle.std.proofs.Common.{◌≡◌, take}
use Rattle.std.specs.Int.{int_max}
use Rattle.std.specs.List.{fold}
use Rattle.pb_summary.proofs.cells.greatest.Given as goal

abbrev pub invariant-loop-cell : goal.invariant-loop-cell
invariant-loop-cell l = l.greatest ≡ fold int_max l.initial.greatest (take l.cell-index l.others)
