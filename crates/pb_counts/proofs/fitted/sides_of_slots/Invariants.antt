use Rattle.std.proofs.Common.{◌≡◌, map, take}
use Rattle.pb_linear.specs.Sizes.{sizes_of}
use Rattle.pb_program.specs.Trees.{bare_rule}
use Rattle.pb_recursion.specs.Plans.{sides_of_slot}
use Rattle.pb_counts.proofs.fitted.sides_of_slots.Given as goal

abbrev pub invariant-loop-slot : goal.invariant-loop-slot
invariant-loop-slot l = l.sides.items ≡ map (sides_of_slot l.t.matrices (sizes_of l.s) (bare_rule l.rule)) (take l.slot-index l.slots)
