use Rattle.std.proofs.Common.{refl, arith, map}
use Rattle.std.specs.List.{range_with_len}
use Rattle.pb_values.specs.Views.{cell_of}
use Rattle.pb_taskgraph.proofs.OwnerLemmas.{row-inside}
use Rattle.pb_locked.proofs.CompleteLemmas.{row-count}
use Rattle.pb_locked.proofs.PlaceLemmas.{place-more, places-room}
use Rattle.pb_locked.proofs.places.number_row.Goals as goal

pub index_mut-requires : goal.index_mut-requires
index_mut-requires c =
    let below = row-inside c.args.view.now c.args.y c.args.view.now.shape.w c.loop-x.x _ c.requires.inside c.loop-x-test.true in
    omega (arith, c.loop-x.places.ok.0, c.place.ensures, places-room (map (λ x. cell_of c.args.view.now x c.args.y) (range_with_len 0 c.loop-x.x)) c.args.places.now.items c.loop-x.places.items c.args.first c.loop-x.invariant)

pub loop-x-preserved : goal.loop-x-preserved
loop-x-preserved c = place-more c.args.view.now c.args.y c.loop-x.x c.place.result c.args.first _ _ _ _ c.loop-x.invariant c.place.ensures refl refl (row-count (λ x. cell_of c.args.view.now x c.args.y) 0 c.loop-x.x)
