use Rattle.std.proofs.Common.{◌≡◌, map, take}
use Rattle.pb_linear.specs.Sizes.{sizes_of}
use Rattle.pb_program.specs.Trees.{bare_rule}
use Rattle.pb_recursion.specs.Counts.{all_of, matrix_of}
use Rattle.pb_recursion.specs.Plans.{sides_of_slot}
use Rattle.pb_counts.specs.Tallies.{capped, counted}
use Rattle.pb_counts.proofs.failed.of_slots.Given as goal

abbrev pub invariant-loop-slot : goal.invariant-loop-slot
invariant-loop-slot l = counted l.tally ≡ capped (all_of (map (λ slot. matrix_of (sides_of_slot l.t.matrices (sizes_of l.s) (bare_rule l.rule) slot)) (take l.slot-index l.slots)))
