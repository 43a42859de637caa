use Rattle.std.proofs.Common.{◌∙◌, ◌++◌, ◌∷◌, [], ap, sym, take}
use Rattle.std.proofs.lemmas.List.{take_more}
use Rattle.pb_values.specs.Views.{view_cells}
use Rattle.pb_taskgraph.specs.declared.task.Part.{Part}
use Rattle.pb_taskgraph.proofs.OwnerLemmas.{piece-entries, piece-more, room}
use Rattle.pb_taskgraph.proofs.owners.fill_task.Goals as goal

pub fill_view-requires : goal.fill_view-requires
fill_view-requires c = piece-entries c.args.first (λ (part : Part). view_cells part.view) c.args.parts.now c.part-item.result _ _ (room c.args.first c.args.task (λ (part : Part). view_cells part.view) (take c.loop-part.part-index c.args.parts.now) _ _ c.loop-part.invariant) c.requires (c.loop-part.part-index, c.loop-part-test.true, sym c.part-item.is)

pub loop-part-preserved : goal.loop-part-preserved
loop-part-preserved c =
    let more = take_more c.args.parts.now c.loop-part.part-index c.part-item.result c.loop-part-test.true ∙ ap (λ p. take c.loop-part.part-index c.args.parts.now ++ p ∷ []) (sym c.part-item.is) in
    piece-more c.args.first c.args.task (λ (part : Part). view_cells part.view) _ _ c.part-item.result _ _ _ c.loop-part.invariant c.fill_view.ensures more
