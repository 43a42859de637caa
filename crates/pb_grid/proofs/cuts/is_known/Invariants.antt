use Rattle.std.proofs.Common.{◌≡◌, false, take}
use Rattle.std.specs.List.{list_any}
use Rattle.pb_linear.specs.Sizes.{leasts_of}
use Rattle.pb_grid.specs.Cuts.{same}
use Rattle.pb_grid.proofs.cuts.is_known.Given as goal

abbrev pub invariant-loop-cut : goal.invariant-loop-cut
invariant-loop-cut l = list_any (λ cut. same (leasts_of l.ranges) cut l.form) (take l.cut-index l.cuts) ≡ false
