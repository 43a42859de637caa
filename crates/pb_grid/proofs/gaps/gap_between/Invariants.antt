use Rattle.std.proofs.Common.{◌≡◌, map, take}
use Rattle.pb_linear.specs.Sizes.{leasts_of}
use Rattle.pb_grid.specs.Segments.{holds_on}
use Rattle.pb_grid.proofs.gaps.gap_between.Given as goal

abbrev pub invariant-loop-rule_box : goal.invariant-loop-rule_box
invariant-loop-rule_box l = l.held.items ≡ map (holds_on (leasts_of l.ranges) l.axis (l.low, l.high)) (take l.rule_box-index l.boxes)
