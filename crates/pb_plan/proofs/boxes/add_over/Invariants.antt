use Rattle.std.proofs.Common.{◌≡◌, ◌++◌, map, take}
use Rattle.pb_linear.specs.Sizes.{sizes_of}
use Rattle.pb_plan.specs.Boxes.{part_box}
use Rattle.pb_plan.proofs.boxes.add_over.Given as goal

abbrev pub invariant-loop-read : goal.invariant-loop-read
invariant-loop-read l = l.boxes.items ≡ l.initial.boxes.items ++ map (part_box l.matrices (sizes_of l.s) l.part) (take l.read-index l.reads)
