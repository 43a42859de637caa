use Rattle.std.proofs.lemmas.List.Elements.{All-push, All-same}
use Rattle.pb_views.specs.Seats.{IsSmall}
use Rattle.pb_steps.specs.Stands.{met_of}
use Rattle.pb_steps.proofs.MetLemmas.{next_met, next_seat}
use Rattle.pb_steps.proofs.met.Met.meet_matrices.Goals as goal

pub loop-k-preserved : goal.loop-k-preserved
loop-k-preserved c = record {
  seats = next_seat (met_of c.args.self.now) (met_of c.loop-k.self) c.args.sides.now c.loop-k.k _ c.loop-k-test.true c.loop-k.invariant.met c.loop-k.seats.items _ c.in_ok-seat.seat c.loop-k.invariant.seats c.in_ok-seat.ensures.seat c.in_ok-push.ensures.items;
  small = All-same IsSmall _ _ c.in_ok-push.ensures.items (All-push IsSmall c.loop-k.seats.items c.in_ok-seat.seat c.loop-k.invariant.small c.in_ok-seat.ensures.small);
  met = next_met (met_of c.args.self.now) (met_of c.loop-k.self) c.args.sides.now c.loop-k.k _ c.loop-k-test.true c.loop-k.invariant.met _ c.in_ok-seat.ensures.met;
}
