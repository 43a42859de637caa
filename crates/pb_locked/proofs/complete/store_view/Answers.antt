use Rattle.std.proofs.Common.{◌∙◌, ap, arith, sym}
use Rattle.pb_values.specs.Views.{row_cells}
use Rattle.pb_taskgraph.proofs.OwnerLemmas.{view-none}
use Rattle.pb_core.specs.Events.{all_happen}
use Rattle.pb_core.specs.Cores.{state_of}
use Rattle.pb_locked.specs.Boards.{writes_by}
use Rattle.pb_locked.proofs.CompleteLemmas.{left-none, piece-enabled, piece-room, piece-values, rest-cells, row-length, rows-end, rows-next}
use Rattle.pb_locked.proofs.complete.store_view.Goals as goal

pub returns-then-view-eq0 : goal.returns-then-view-eq0
returns-then-view-eq0 g c = let p = g.N.NamesWork.plan in ap (λ l. all_happen p (state_of p c.args.core.now) (writes_by c.args.hand l)) (sym (view-none c.args.view.now c.if-view-eq0.true))

pub split_at-requires : goal.split_at-requires
split_at-requires g c = let p = g.N.NamesWork.plan in piece-room p _ (state_of p c.loop-y.core) c.args.hand _ _ _ _ (rows-next (row_cells c.args.view.now) c.loop-y.y c.args.view.now.shape.h c.loop-y-test.true) _ (row-length c.args.view.now c.loop-y.y) c.loop-y.invariant

pub store_row-requires-clause-values : goal.store_row-requires-clause-values
store_row-requires-clause-values g c κs within =
    let p = g.N.NamesWork.plan in
    c.split_at.ensures.front ∙ piece-values p _ (state_of p c.loop-y.core) c.args.hand _ _ _ _ (rows-next (row_cells c.args.view.now) c.loop-y.y c.args.view.now.shape.h c.loop-y-test.true) _ (row-length c.args.view.now c.loop-y.y) c.loop-y.invariant

pub store_row-requires-clause-enabled : goal.store_row-requires-clause-enabled
store_row-requires-clause-enabled g c κs within =
    let p = g.N.NamesWork.plan in
    piece-enabled p _ (state_of p c.loop-y.core) c.args.hand _ _ _ _ (rows-next (row_cells c.args.view.now) c.loop-y.y c.args.view.now.shape.h c.loop-y-test.true) _ (row-length c.args.view.now c.loop-y.y) c.loop-y.invariant

pub loop-y-preserved : goal.loop-y-preserved
loop-y-preserved g c =
    let p = g.N.NamesWork.plan in
    rest-cells p _ (state_of p c.loop-y.core) c.args.hand _ _ _ _ (rows-next (row_cells c.args.view.now) c.loop-y.y c.args.view.now.shape.h c.loop-y-test.true) _ (row-length c.args.view.now c.loop-y.y) c.loop-y.invariant
    (state_of p c.store_row.new.core) _ c.store_row.ensures c.split_at.ensures.back

pub returns : goal.returns
returns g c = let p = g.N.NamesWork.plan in left-none p _ (state_of p c.loop-y.core) _ (ap (writes_by c.args.hand) (rows-end (row_cells c.args.view.now) c.loop-y.y c.args.view.now.shape.h (omega (arith, c.loop-y-test.false)))) c.loop-y.invariant.left
