use Rattle.std.proofs.Common.{◌≡◌, ◌∙◌, ◌++◌, ◌+◌, [], ◌∷◌, ap, get_or, length, take, arith}
use Rattle.std.specs.Prelude.{slice_index, slice_index_or, slice_set}
use Rattle.std.specs.List.{range_with_len}
use Rattle.std.proofs.lemmas.List.{length-map}
use Rattle.std.proofs.lemmas.List.FromFn.{length-range_with_len}
use Rattle.pb_graph.specs.Layerings.{LayeringValue}
use Rattle.pb_frame.specs.Frames.{in_layer}
use Rattle.pb_frame.specs.declared.part.FramePart.{FramePart}
use Rattle.pb_frame.proofs.LayerLemmas.{put_more}
use Rattle.pb_frame.proofs.ListLemmas.{at_get, taken}
use Rattle.pb_frame.proofs.layers.by_layer.Goals as goal

pub put_part-requires : goal.put_part-requires
put_part-requires c =
    let order = c.args.order.now in
    let none : FramePart = record { node = 0; rect = record { x0 = 0; y0 = 0; x1 = 0; y1 = 0 }; rule = 0 } in
    let part = get_or c.args.parts.now c.loop-part.part-index none in
    let inside = c.requires.inside c.loop-part.part-index none c.loop-part-test.true in
    let below = c.requires.below c.loop-part.part-index none c.loop-part-test.true in
    let is : c.index.result.now ≡ slice_index order.layer part.node = c.index.ensures ∙ ap (λ (l : LayeringValue). get_or l.layer part.node c.index.result.now) c.order.view_is ∙ at_get order.layer part.node c.index.result.now 0 inside in
    omega (arith, is, below, ap length c.loop-part.invariant, length-map (range_with_len 0 (length order.layers)) (in_layer order (take c.loop-part.part-index c.args.parts.now)), length-range_with_len 0 (length order.layers))

pub loop-part-preserved : goal.loop-part-preserved
loop-part-preserved c =
    let order = c.args.order.now in
    let none : FramePart = record { node = 0; rect = record { x0 = 0; y0 = 0; x1 = 0; y1 = 0 }; rule = 0 } in
    let part = get_or c.args.parts.now c.loop-part.part-index none in
    let inside = c.requires.inside c.loop-part.part-index none c.loop-part-test.true in
    let below = c.requires.below c.loop-part.part-index none c.loop-part-test.true in
    let is : c.index.result.now ≡ slice_index order.layer part.node = c.index.ensures ∙ ap (λ (l : LayeringValue). get_or l.layer part.node c.index.result.now) c.order.view_is ∙ at_get order.layer part.node c.index.result.now 0 inside in
    put_more order (length order.layers) (take c.loop-part.part-index c.args.parts.now) (take (c.loop-part.part-index + 1) c.args.parts.now) part c.loop-part.layers.items c.put_part.new.layers.items
    (taken c.args.parts.now c.loop-part.part-index none c.loop-part-test.true) below c.loop-part.invariant
    (c.in_ok-put_part.ensures ∙ ap (λ l. slice_set c.loop-part.layers.items l (slice_index_or c.loop-part.layers.items l [] ++ part ∷ [])) is)
