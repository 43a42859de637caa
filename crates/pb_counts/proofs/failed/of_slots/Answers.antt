use Rattle.std.proofs.Common.{◌∙◌, sym, ap, List}
use Rattle.pb_linear.specs.Sizes.{sizes_of}
use Rattle.pb_program.specs.declared.plan.Slot.{Slot}
use Rattle.pb_program.specs.Trees.{bare_rule}
use Rattle.pb_recursion.specs.Counts.{Counted, all_of, matrix_of}
use Rattle.pb_recursion.specs.Plans.{sides_of_slot}
use Rattle.pb_recursion.specs.Shapes.{Sides}
use Rattle.pb_counts.specs.Tallies.{capped, counted}
use Rattle.pb_counts.proofs.TallyLemmas.{count_end, count_next, map_twice}
use Rattle.pb_counts.proofs.failed.of_slots.Goals as goal

pub loop-slot-preserved : goal.loop-slot-preserved
loop-slot-preserved c =
    let sides = λ (slot : Slot). sides_of_slot c.args.t.now.matrices (sizes_of c.args.s.now) (bare_rule c.args.rule.now) slot in
    count_next (λ (slot : Slot). matrix_of (sides slot)) c.args.slots.now c.loop-slot.slot-index _ c.loop-slot-test.true (counted c.loop-slot.tally) (counted c.of_matrix.result) (counted c.both-tally.result) c.loop-slot.invariant
    (c.of_matrix.ensures ∙ ap (λ (s : Sides). capped (matrix_of s)) c.sides_of_slot.ensures) c.both-tally.ensures

pub returns : goal.returns
returns c =
    let sides = λ (slot : Slot). sides_of_slot c.args.t.now.matrices (sizes_of c.args.s.now) (bare_rule c.args.rule.now) slot in
    count_end (λ (slot : Slot). matrix_of (sides slot)) c.args.slots.now c.loop-slot.slot-index (counted c.loop-slot.tally) c.loop-slot-test.false c.loop-slot.invariant
    ∙ ap (λ (l : List Counted). capped (all_of l)) (sym (map_twice sides matrix_of c.args.slots.now))
