use Rattle.pb_recursion.specs.Plans.{named}
use Rattle.pb_views.specs.Seats.{IsSmall, no_seat}
use Rattle.std.proofs.lemmas.List.Elements.{All-push, All-same}
use Rattle.pb_steps.proofs.ListLemmas.{next_mapped}
use Rattle.pb_steps.proofs.names.Names.all_named.Goals as goal

pub loop-k-preserved : goal.loop-k-preserved
loop-k-preserved c = record {
  seats = next_mapped (named no_seat c.args.self.now) c.args.slots.now c.loop-k.k _ c.loop-k-test.true c.loop-k.seats.items _ c.named-seat.result c.loop-k.invariant.seats c.named-seat.ensures.seat c.in_ok-push.ensures.items;
  small = λ h. All-same IsSmall _ _ c.in_ok-push.ensures.items (All-push IsSmall c.loop-k.seats.items c.named-seat.result (c.loop-k.invariant.small h) (c.named-seat.ensures.small h));
}
