use Rattle.std.proofs.Common.{◌∙◌, ◌+◌, ◌<◌, ap, arith, length, sym, take}
use Rattle.std.specs.List.{flat_map, range_with_len}
use Rattle.std.proofs.lemmas.List.{take_all}
use Rattle.pb_base.proofs.ListLemmas.{in_range}
use Rattle.pb_values.specs.Views.{row_cells}
use Rattle.pb_taskgraph.proofs.OwnerLemmas.{piece-inside, view-none}
use Rattle.pb_locked.specs.Places.{numbered}
use Rattle.pb_locked.proofs.CompleteLemmas.{row-length}
use Rattle.pb_locked.proofs.PlaceLemmas.{pieces-more, pieces-next, places-room, range-at, range-size, row-few}
use Rattle.pb_locked.proofs.places.number_view.Goals as goal

pub returns-then-view-eq0-clause-places : goal.returns-then-view-eq0-clause-places
returns-then-view-eq0-clause-places c = ap (λ l. numbered c.args.places.now.items l c.args.first) (sym (view-none c.args.view.now c.if-view-eq0.true))

pub returns-then-view-eq0-clause-next : goal.returns-then-view-eq0-clause-next
returns-then-view-eq0-clause-next c = omega (arith, ap length (view-none c.args.view.now c.if-view-eq0.true))

pub number_row-requires-clause-inside : goal.number_row-requires-clause-inside
number_row-requires-clause-inside c = piece-inside (row_cells c.args.view.now) _ c.loop-y.y _ _ (places-room (flat_map (row_cells c.args.view.now) (take c.loop-y.y (range_with_len 0 c.args.view.now.shape.h))) _ _ c.args.first c.loop-y.invariant.places) c.requires.inside (in_range c.args.view.now.shape.h c.loop-y.y c.loop-y-test.true)

pub number_row-requires-clause-few : goal.number_row-requires-clause-few
number_row-requires-clause-few c = row-few c.args.view.now c.loop-y.y c.args.first c.loop-y.next c.loop-y-test.true c.loop-y.invariant.next c.requires.few

pub overflow_cast-next : goal.overflow_cast-next
overflow_cast-next c = let few = row-few c.args.view.now c.loop-y.y c.args.first c.loop-y.next c.loop-y-test.true c.loop-y.invariant.next c.requires.few in omega (arith, few)

pub overflow_add-next : goal.overflow_add-next
overflow_add-next c = let few = row-few c.args.view.now c.loop-y.y c.args.first c.loop-y.next c.loop-y-test.true c.loop-y.invariant.next c.requires.few in omega (arith, few)

pub loop-y-preserved : goal.loop-y-preserved
loop-y-preserved c =
    let h = c.args.view.now.shape.h in
    let y = c.loop-y.y in
    let under : y < length (range_with_len 0 h) = omega (arith, range-size h, c.loop-y-test.true) in
    let at = range-at h y c.loop-y-test.true in
    record {
      places = pieces-more (row_cells c.args.view.now) (range_with_len 0 h) y y under at _ _ _ c.args.first c.loop-y.next c.loop-y.invariant.places c.loop-y.invariant.next c.number_row.ensures;
      next = ap (λ w. c.loop-y.next + w) (sym (row-length c.args.view.now y)) ∙ pieces-next (row_cells c.args.view.now) (range_with_len 0 h) y y under at c.args.first c.loop-y.next c.loop-y.invariant.next;
    }

pub returns-clause-places : goal.returns-clause-places
returns-clause-places c =
    let h = c.args.view.now.shape.h in
    c.loop-y.invariant.places ∙ ap (λ l. numbered c.args.places.now.items (flat_map (row_cells c.args.view.now) l) c.args.first) (take_all c.loop-y.y (range_with_len 0 h) (omega (arith, range-size h, c.loop-y-test.false)))

pub returns-clause-next : goal.returns-clause-next
returns-clause-next c =
    let h = c.args.view.now.shape.h in
    c.loop-y.invariant.next ∙ ap (λ l. c.args.first + length (flat_map (row_cells c.args.view.now) l)) (take_all c.loop-y.y (range_with_len 0 h) (omega (arith, range-size h, c.loop-y-test.false)))
