use Rattle.std.proofs.Common.{◌≡◌, map, take}
use Rattle.pb_linear.specs.Sizes.{leasts_of}
use Rattle.pb_program.specs.Trees.{bare_rule}
use Rattle.pb_region.specs.Boxes.{box, box_of}
use Rattle.pb_region.proofs.boxes.boxes.Given as goal

abbrev pub invariant-loop-out : goal.invariant-loop-out
invariant-loop-out l = map box_of l.boxes.items ≡ map (box (leasts_of l.ranges) l.matrices l.number (bare_rule l.rule)) (take l.out-index l.rule.outs)
