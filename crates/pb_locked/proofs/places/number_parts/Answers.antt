use Rattle.std.proofs.Common.{◌∙◌, ◌+◌, arith, sym, take, zero-add, length}
use Rattle.std.specs.List.{flat_map}
use Rattle.pb_values.specs.Views.{view_cells}
use Rattle.pb_taskgraph.specs.declared.task.Part.{Part}
use Rattle.pb_taskgraph.proofs.OwnerLemmas.{piece-inside}
use Rattle.pb_locked.proofs.PlaceLemmas.{pieces-few, pieces-more, pieces-next, places-room}
use Rattle.pb_locked.proofs.places.number_parts.Goals as goal

pub number_view-next-requires-clause-inside : goal.number_view-next-requires-clause-inside
number_view-next-requires-clause-inside c =
    piece-inside (λ (part : Part). view_cells part.view) c.args.parts.now c.part-item.result _ _ (places-room (flat_map (λ (part : Part). view_cells part.view) (take c.loop-part.part-index c.args.parts.now)) _ _ 0 c.loop-part.invariant.places) c.requires.inside
    (c.loop-part.part-index, c.loop-part-test.true, sym c.part-item.is)

pub number_view-next-requires-clause-few : goal.number_view-next-requires-clause-few
number_view-next-requires-clause-few c =
    let most = pieces-few (λ (part : Part). view_cells part.view) c.args.parts.now c.loop-part.part-index c.part-item.result c.loop-part-test.true c.part-item.is in
    omega (arith, most, c.loop-part.invariant.next, c.requires.few)

pub loop-part-preserved : goal.loop-part-preserved
loop-part-preserved c =
    let f = λ (part : Part). view_cells part.view in
    let at = c.loop-part.invariant.next ∙ sym (zero-add (length (flat_map f (take c.loop-part.part-index c.args.parts.now)))) in
    record {
      places = pieces-more f c.args.parts.now c.loop-part.part-index c.part-item.result c.loop-part-test.true c.part-item.is _ _ _ 0 c.loop-part.next c.loop-part.invariant.places at c.number_view-next.ensures.places;
      next = c.number_view-next.ensures.next ∙ pieces-next f c.args.parts.now c.loop-part.part-index c.part-item.result c.loop-part-test.true c.part-item.is 0 c.loop-part.next at ∙ zero-add (length (flat_map f (take (c.loop-part.part-index + 1) c.args.parts.now)));
    }
