use Rattle.std.proofs.Common.{◌<◌, ◌-◌, length, refl, rules, arith}
use Rattle.pb_taskgraph.specs.Owners.{HasEntry}
use Rattle.pb_taskgraph.proofs.OwnerLemmas.{row-each, row-more, row-room}
use Rattle.pb_taskgraph.proofs.owners.fill_row.Goals as goal

pub overflow_sub-owners : goal.overflow_sub-owners
overflow_sub-owners c = omega (arith, c.place.ensures, (row-each (HasEntry c.args.first (length c.args.owners.now)) c.args.view c.args.y c.args.view.shape.w c.loop-x.x c.requires.inside c.loop-x-test.true).0)

pub bounds-owners-place : goal.bounds-owners-place
bounds-owners-place c =
    let below = row-each (HasEntry c.args.first (length c.args.owners.now)) c.args.view c.args.y c.args.view.shape.w c.loop-x.x c.requires.inside c.loop-x-test.true in
    omega (arith, c.place.ensures, below.0, below.1, row-room c.args.first c.args.task c.args.view c.args.y c.loop-x.x c.args.owners.now c.loop-x.owners c.loop-x.invariant)

pub loop-x-preserved : goal.loop-x-preserved
loop-x-preserved c = row-more c.args.first c.args.task c.args.view c.args.y c.loop-x.x c.place.result _ _ _ c.loop-x.invariant c.place.ensures refl

pub offset_bounds-owners-place : goal.offset_bounds-owners-place
offset_bounds-owners-place c =
    let below : c.place.result - c.args.first < length c.loop-x.owners = bounds-owners-place c in
    search rules
