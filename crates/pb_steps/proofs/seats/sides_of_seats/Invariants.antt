use Rattle.std.proofs.Common.{◌≡◌, map, take}
use Rattle.pb_views.specs.Seats.{sides_of_seat}
use Rattle.pb_steps.proofs.seats.sides_of_seats.Given as goal

abbrev pub invariant-loop-seat : goal.invariant-loop-seat
invariant-loop-seat l = l.sides.items ≡ map sides_of_seat (take l.seat-index l.seats)
