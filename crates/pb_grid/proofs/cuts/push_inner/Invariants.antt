use Rattle.std.proofs.Common.{◌≡◌, ◌++◌, take}
use Rattle.std.specs.Prelude.{filter}
use Rattle.std.specs.List.{All}
use Rattle.pb_linear.specs.Sizes.{leasts_of}
use Rattle.pb_grid.specs.Cuts.{AreSmall, is_inner}
use Rattle.pb_grid.proofs.cuts.push_inner.Given as goal

abbrev pub invariant-loop-bound : goal.invariant-loop-bound
invariant-loop-bound l = (l.list.items ≡ l.initial.list.items ++ filter (is_inner (leasts_of l.ranges) l.side) (take l.bound-index l.bounds)) × All AreSmall l.list.items
