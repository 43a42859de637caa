use Rattle.std.proofs.Common.{◌≡◌, ◌≤◌, ◌⊎◌, [], length, map, true, vec_capacity}
use Rattle.std.specs.List.{Contains}
use Rattle.pb_cells.specs.Ends.{Knows}
use Rattle.pb_cells.specs.Handles.{HandValue}
use Rattle.pb_steal.specs.Hands.{CrewHandValue}
use Rattle.pb_steal.proofs.crew.one_seat.Given as goal

abbrev pub invariant-loop-hand : goal.invariant-loop-hand
invariant-loop-hand g l = record {
  table : l.all.table ≡ g.B.NamesTable.table;
  seen : length g.N.NamesWork.plan.graph.tasks ≤ l.all.seen;
  done : (hand : CrewHandValue) → Contains l.hands.items hand → hand.done ≡ true;
  known : (seat : HandValue) → Contains (map (λ h. h.seat) l.fn.hands.items) seat → Contains (map (λ h. h.seat) l.hands.items) seat ⊎ Knows l.all seat;
  empty : l.seats.items ≡ [];
  room : 1 ≤ vec_capacity l.seats;
}

abbrev pub decreases-loop-hand : goal.decreases-loop-hand
decreases-loop-hand g l = length l.hands.items
