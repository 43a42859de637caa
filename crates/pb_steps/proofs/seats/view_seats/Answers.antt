use Rattle.std.proofs.Common.{◌≡◌, ◌∙◌, sym, ap, subst, List, length, arith}
use Rattle.std.specs.Prelude.{slice_index_or}
use Rattle.std.proofs.lemmas.List.Elements.{All-push, All-same}
use Rattle.pb_linear.specs.Sizes.{sizes_of}
use Rattle.pb_views.specs.Seats.{IsSmall, LiesWithin, no_seat, part_seat}
use Rattle.pb_views.specs.declared.seat.Seat.{Seat}
use Rattle.pb_steps.specs.Stands.{shown_seat}
use Rattle.pb_steps.specs.Values.{InstanceValue}
use Rattle.pb_steps.proofs.ListLemmas.{next_mapped}
use Rattle.pb_steps.proofs.ShowLemmas.{box_below, box_lies, shown}
use Rattle.pb_steps.proofs.seats.view_seats.Goals as goal

pub seat_of-seat-requires-clause-there : goal.seat_of-seat-requires-clause-there
seat_of-seat-requires-clause-there c =
    let seats = c.deref.ensures.value ∙ ap (λ (v : InstanceValue). v.seats) c.here.view_is in
    let below = box_below c.args.t.now.matrices c.args.here.now c.args.views.now c.requires c.loop-k.k c.index-views-k.result c.loop-k-test.true c.in_ok-boxes.boxes.items c.in_ok-boxes.ensures c.index.result.now c.index.ensures in
    omega (arith, below, ap length seats)

pub seat_of-seat-requires-clause-lies : goal.seat_of-seat-requires-clause-lies
seat_of-seat-requires-clause-lies c =
    let seats = c.deref.ensures.value ∙ ap (λ (v : InstanceValue). v.seats) c.here.view_is in
    subst (λ (l : List Seat). LiesWithin (slice_index_or l c.index.result.now.base no_seat) c.index.result.now.rect) (sym seats)
    (box_lies c.args.t.now.matrices c.args.here.now c.args.views.now c.requires c.loop-k.k c.index-views-k.result c.loop-k-test.true c.in_ok-boxes.boxes.items c.in_ok-boxes.ensures c.index.result.now c.index.ensures)

pub loop-k-preserved : goal.loop-k-preserved
loop-k-preserved c =
    let seats = c.deref.ensures.value ∙ ap (λ (v : InstanceValue). v.seats) c.here.view_is in
    let seat = c.seat_of-seat.result in
    let is : seat ≡ part_seat c.index-views-k.result.view (slice_index_or c.args.here.now.seats c.index.result.now.base no_seat) c.index.result.now.rect =
    c.seat_of-seat.ensures.seat ∙ ap (λ (l : List Seat). part_seat c.index-views-k.result.view (slice_index_or l c.index.result.now.base no_seat) c.index.result.now.rect) seats in
    record {
      seats = next_mapped (shown_seat c.args.t.now.matrices (sizes_of c.args.here.now.sizes) c.args.here.now.seats) c.args.views.now c.loop-k.k c.index-views-k.result c.loop-k-test.true c.loop-k.found.items _ seat c.loop-k.invariant.seats
          (shown c.args.t.now.matrices c.args.here.now c.args.views.now c.requires c.loop-k.k c.index-views-k.result c.loop-k-test.true c.in_ok-boxes.boxes.items c.in_ok-boxes.ensures c.index.result.now c.index.ensures seat c.index-views-k.result c.index-views-k.is is)
          c.in_ok-push.ensures.items;
      small = All-same IsSmall _ _ c.in_ok-push.ensures.items (All-push IsSmall c.loop-k.found.items seat c.loop-k.invariant.small c.seat_of-seat.ensures.small);
    }
