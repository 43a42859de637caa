use Rattle.std.proofs.Common.{◌≡◌, ◌-◌, drop, length}
use Rattle.std.specs.List.{All}
use Rattle.pb_linear.specs.Sizes.{leasts_of}
use Rattle.pb_grid.specs.Cuts.{AreSmall, le}
use Rattle.pb_grid.specs.Lists.{in_order}
use Rattle.pb_grid.proofs.cuts.in_order.Given as goal

abbrev pub invariant-loop-done : goal.invariant-loop-done
invariant-loop-done l = (l.ordered.items ≡ in_order (le (leasts_of l.ranges)) (drop (length l.cuts - l.done) l.cuts)) × All AreSmall l.ordered.items
