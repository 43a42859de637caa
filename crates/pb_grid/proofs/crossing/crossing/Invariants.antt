use Rattle.std.proofs.Common.{◌≡◌, drop}
use Rattle.pb_linear.specs.Sizes.{leasts_of}
use Rattle.pb_grid.specs.Crossings.{crossing}
use Rattle.pb_grid.proofs.crossing.crossing.Given as goal

abbrev pub invariant-loop-place : goal.invariant-loop-place
invariant-loop-place l = crossing (leasts_of l.ranges) l.cuts ≡ crossing (leasts_of l.ranges) (drop l.place l.cuts)
