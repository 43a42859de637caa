use Rattle.std.proofs.Common.{◌≡◌, drop}
use Rattle.pb_recursion.specs.Shapes.{is_zero_row}
use Rattle.pb_counts.proofs.standing.is_zero.Given as goal

abbrev pub invariant-loop-coefficient : goal.invariant-loop-coefficient
invariant-loop-coefficient l = is_zero_row l.row ≡ is_zero_row (drop l.coefficient-index l.row)
