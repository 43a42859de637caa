use Rattle.std.proofs.Common.{◌≡◌, drop}
use Rattle.std.specs.List.{find}
use Rattle.pb_linear.specs.Sizes.{leasts_of}
use Rattle.pb_grid.specs.Cuts.{crosses}
use Rattle.pb_grid.proofs.crossing.crossing_with.Given as goal

abbrev pub invariant-loop-second : goal.invariant-loop-second
invariant-loop-second l = let test = crosses (leasts_of l.ranges) l.first in find test l.later ≡ find test (drop l.second-index l.later)
