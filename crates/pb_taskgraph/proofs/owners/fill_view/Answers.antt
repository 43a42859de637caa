use Rattle.std.proofs.Common.{◌≡◌, ◌∙◌, ap, length, sym}
use Rattle.std.proofs.lemmas.List.{take_at}
use Rattle.std.specs.List.{range_with_len}
use Rattle.pb_base.proofs.ListLemmas.{in_range}
use Rattle.pb_values.specs.Views.{row_cells}
use Rattle.pb_taskgraph.specs.Owners.{filled}
use Rattle.pb_taskgraph.proofs.OwnerLemmas.{length-filled, piece-entries, piece-more, range-more, room, view-none}
use Rattle.pb_taskgraph.proofs.owners.fill_view.Goals as goal

pub returns-then-view-eq0 : goal.returns-then-view-eq0
returns-then-view-eq0 c = ap (λ l. filled c.args.first c.args.owners.now.items l c.args.task) (sym (view-none c.args.view.now c.if-view-eq0.true))

pub fill_row-requires-clause-inside : goal.fill_row-requires-clause-inside
fill_row-requires-clause-inside c =
    piece-entries c.args.first (row_cells c.args.view.now) _ c.loop-y.y _ _ (ap length c.deref_mut.ensures.value ∙ room c.args.first c.args.task (row_cells c.args.view.now) (range_with_len 0 c.loop-y.y) _ _ c.loop-y.invariant) c.requires (in_range c.args.view.now.shape.h c.loop-y.y c.loop-y-test.true)

pub loop-y-preserved : goal.loop-y-preserved
loop-y-preserved c =
    let new = c.fill_row.new.owners in
    let long : length new ≡ c.loop-y.owners.len = ap length c.fill_row.ensures ∙ length-filled c.args.first c.args.task (row_cells c.args.view.now c.loop-y.y) c.deref_mut.result.now ∙ c.deref_mut.ensures.len in
    take_at new _ c.loop-y.owners.len long ∙ piece-more c.args.first c.args.task (row_cells c.args.view.now) _ _ c.loop-y.y _ c.deref_mut.result.now _ (c.deref_mut.ensures.value ∙ c.loop-y.invariant) c.fill_row.ensures (range-more c.loop-y.y)
