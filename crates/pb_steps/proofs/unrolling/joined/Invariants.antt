use Rattle.std.proofs.Common.{◌≡◌, ◌++◌, take}
use Rattle.pb_steps.proofs.unrolling.joined.Given as goal

abbrev pub invariant-loop-seat : goal.invariant-loop-seat
invariant-loop-seat l = l.seats.items ≡ l.initial.seats.items ++ take l.seat-index l.others
