use Rattle.std.proofs.Common.{◌∙◌, ap, arith}
use Rattle.pb_values.specs.Views.{view_cells}
use Rattle.pb_taskgraph.specs.declared.task.Part.{Part}
use Rattle.pb_core.specs.Cores.{state_of}
use Rattle.pb_locked.specs.Boards.{writes_by}
use Rattle.pb_locked.proofs.CompleteLemmas.{left-none, parts-end, parts-next, piece-enabled, piece-room, piece-values, rest-cells, view-length}
use Rattle.pb_locked.proofs.complete.store_parts.Goals as goal

pub overflow_mul-cells : goal.overflow_mul-cells
overflow_mul-cells g c =
    let p = g.N.NamesWork.plan in
    let room = piece-room p _ (state_of p c.loop-part.core) c.args.hand _ _ _ _ (parts-next (λ (part : Part). view_cells part.view) c.args.parts.now c.loop-part.part-index c.part-item.result c.loop-part-test.true c.part-item.is) _ (view-length c.part-item.result.view) c.loop-part.invariant.1 in
    omega (arith, room, c.loop-part.invariant.0)

pub split_at-requires : goal.split_at-requires
split_at-requires g c =
    let p = g.N.NamesWork.plan in
    piece-room p _ (state_of p c.loop-part.core) c.args.hand _ _ _ _ (parts-next (λ (part : Part). view_cells part.view) c.args.parts.now c.loop-part.part-index c.part-item.result c.loop-part-test.true c.part-item.is) _ (view-length c.part-item.result.view) c.loop-part.invariant.1

pub store_view-requires-clause-values : goal.store_view-requires-clause-values
store_view-requires-clause-values g c κs within =
    let p = g.N.NamesWork.plan in
    c.split_at.ensures.front
    ∙ piece-values p _ (state_of p c.loop-part.core) c.args.hand _ _ _ _ (parts-next (λ (part : Part). view_cells part.view) c.args.parts.now c.loop-part.part-index c.part-item.result c.loop-part-test.true c.part-item.is) _ (view-length c.part-item.result.view) c.loop-part.invariant.1

pub store_view-requires-clause-enabled : goal.store_view-requires-clause-enabled
store_view-requires-clause-enabled g c κs within =
    let p = g.N.NamesWork.plan in
    piece-enabled p _ (state_of p c.loop-part.core) c.args.hand _ _ _ _ (parts-next (λ (part : Part). view_cells part.view) c.args.parts.now c.loop-part.part-index c.part-item.result c.loop-part-test.true c.part-item.is) _ (view-length c.part-item.result.view) c.loop-part.invariant.1

pub loop-part-preserved : goal.loop-part-preserved
loop-part-preserved g c =
    let p = g.N.NamesWork.plan in (
      omega (arith, c.loop-part.invariant.0, c.split_at.ensures.back_len),
      rest-cells p _ (state_of p c.loop-part.core) c.args.hand _ _ _ _ (parts-next (λ (part : Part). view_cells part.view) c.args.parts.now c.loop-part.part-index c.part-item.result c.loop-part-test.true c.part-item.is) _ (view-length c.part-item.result.view) c.loop-part.invariant.1
          (state_of p c.store_view.new.core) _ c.store_view.ensures c.split_at.ensures.back,
    )

pub returns : goal.returns
returns g c = let p = g.N.NamesWork.plan in left-none p _ (state_of p c.loop-part.core) _ (ap (writes_by c.args.hand) (parts-end (λ (part : Part). view_cells part.view) c.args.parts.now c.loop-part.part-index (omega (arith, c.loop-part-test.false)))) c.loop-part.invariant.1.left
