use Rattle.std.proofs.Common.{◌≡◌, take}
use Rattle.std.specs.Prelude.{sum_by}
use Rattle.pb_linear.specs.Sizes.{sizes_of}
use Rattle.pb_program.specs.Trees.{bare_transform}
use Rattle.pb_instance_cost.specs.Parts.{part_shown}
use Rattle.pb_instance_cost.proofs.parts.parts_cost.Given as goal

abbrev pub invariant-loop-part : goal.invariant-loop-part
invariant-loop-part l = l.cost ≡ sum_by (part_shown (bare_transform l.transform) (sizes_of l.s)) (take l.part-index l.parts)
