use Rattle.std.proofs.Common.{◌≡◌, true, take}
use Rattle.std.specs.List.{list_all}
use Rattle.pb_linear.specs.Sizes.{leasts_of}
use Rattle.pb_grid.specs.Cuts.{le}
use Rattle.pb_grid.proofs.gaps.all_at_most.Given as goal

abbrev pub invariant-loop-bound : goal.invariant-loop-bound
invariant-loop-bound l = list_all (λ f. le (leasts_of l.ranges) f l.cut) (take l.bound-index l.bounds) ≡ true
