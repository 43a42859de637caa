use Rattle.std.proofs.Common.{◌≡◌, map, take}
use Rattle.pb_linear.specs.Sizes.{leasts_of}
use Rattle.pb_grid.specs.Gaps.{gap_of}
use Rattle.pb_grid.specs.Lists.{neighbours}
use Rattle.pb_grid.proofs.gaps.gaps.Given as goal

abbrev pub invariant-loop-next : goal.invariant-loop-next
invariant-loop-next l = l.gaps.items ≡ map (gap_of (leasts_of l.ranges) l.axis l.boxes) (neighbours (take l.next l.cuts))
