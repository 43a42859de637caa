use Rattle.std.proofs.Common.{◌≡◌, take}
use Rattle.std.specs.List.{All}
use Rattle.pb_linear.specs.Sizes.{leasts_of}
use Rattle.pb_grid.specs.Cuts.{AreSmall, same}
use Rattle.pb_grid.specs.Lists.{firsts}
use Rattle.pb_grid.proofs.cuts.firsts.Given as goal

abbrev pub invariant-loop-form : goal.invariant-loop-form
invariant-loop-form l = (l.cuts.items ≡ firsts (same (leasts_of l.ranges)) (take l.form-index l.list)) × All AreSmall l.cuts.items
