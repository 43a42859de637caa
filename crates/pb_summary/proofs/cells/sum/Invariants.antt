use Rattle.std.proofs.Common.{◌≡◌, ◌*◌, ◌^◌, ◌≤◌, pos, ◌+ℤ◌, take, unsigned_abs}
use Rattle.std.specs.List.{fold}
use Rattle.pb_summary.proofs.cells.sum.Given as goal

abbrev pub invariant-loop-cell : goal.invariant-loop-cell
invariant-loop-cell l = record {
  sum : l.sum ≡ fold ◌+ℤ◌ (pos 0) (take l.cell-index l.cells);
  small : unsigned_abs l.sum ≤ l.cell-index * 2 ^ 63;
}
