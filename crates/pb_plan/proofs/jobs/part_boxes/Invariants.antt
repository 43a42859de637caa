use Rattle.std.proofs.Common.{◌≡◌, take}
use Rattle.std.specs.List.{flat_map}
use Rattle.pb_linear.specs.Sizes.{sizes_of}
use Rattle.pb_program.specs.Trees.{bare_transform}
use Rattle.pb_plan.specs.Boxes.{part_boxes}
use Rattle.pb_plan.proofs.jobs.part_boxes.Given as goal

abbrev pub invariant-loop-part : goal.invariant-loop-part
invariant-loop-part l = l.boxes.items ≡ flat_map (part_boxes (bare_transform l.transform) (sizes_of l.s)) (take l.part-index l.parts)
