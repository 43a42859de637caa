use Rattle.std.proofs.Common.{◌<◌, ◌≤◌, arith, refl}
use Rattle.pb_core.specs.Cores.{state_of}
use Rattle.pb_locked.proofs.CompleteLemmas.{left-none, left-one, row-end, row-next, value-is, values-length}
use Rattle.pb_locked.proofs.complete.store_row.Goals as goal

pub place-requires : goal.place-requires
place-requires g c = (omega (arith, c.loop-x-test.true, values-length g.N.NamesWork.plan c.args.view.now c.args.y c.args.values.now c.requires.values), c.requires.row)

pub store-stored-requires-after_bounds : goal.store-stored-requires-after_bounds
store-stored-requires-after_bounds g c κs within = value-is g.N.NamesWork.plan c.args.view.now c.args.y c.args.values.now c.requires.values c.loop-x.x c.place.result c.loop-x-test.true c.place.ensures

pub loop-x-preserved : goal.loop-x-preserved
loop-x-preserved g c =
    let p = g.N.NamesWork.plan in
    let below : c.loop-x.x < c.args.view.now.shape.w = omega (arith, c.loop-x-test.true, values-length p c.args.view.now c.args.y c.args.values.now c.requires.values) in
    let row = row-next c.args.hand c.args.view.now c.args.y c.loop-x.x c.place.result below c.place.ensures in
    left-one p _ (state_of p c.loop-x.core) _ _ _ row c.loop-x.invariant c.loop-x.core c.store-stored.new.self refl c.store-stored.result c.store-stored.ensures

pub returns : goal.returns
returns g c =
    let p = g.N.NamesWork.plan in
    let past : c.args.view.now.shape.w ≤ c.loop-x.x = omega (arith, c.loop-x-test.false, values-length p c.args.view.now c.args.y c.args.values.now c.requires.values) in
    left-none p _ (state_of p c.loop-x.core) _ (row-end c.args.hand c.args.view.now c.args.y c.loop-x.x past) c.loop-x.invariant
