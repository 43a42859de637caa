use Rattle.std.proofs.Common.{◌≡◌, take}
use Rattle.std.specs.List.{All}
use Rattle.pb_linear.specs.Sizes.{leasts_of}
use Rattle.pb_grid.specs.Cuts.{AreSmall, listed}
use Rattle.pb_grid.proofs.cuts.listed.Given as goal

abbrev pub invariant-loop-rule_box : goal.invariant-loop-rule_box
invariant-loop-rule_box l = (l.list.items ≡ listed (leasts_of l.ranges) l.axis l.side (take l.rule_box-index l.boxes)) × All AreSmall l.list.items
