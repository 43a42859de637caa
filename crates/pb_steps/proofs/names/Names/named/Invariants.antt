use Rattle.std.proofs.Common.{◌≡◌, drop}
use Rattle.pb_recursion.specs.Plans.{named}
use Rattle.pb_views.specs.Seats.{no_seat}
use Rattle.pb_steps.proofs.names.Names.named.Given as goal

abbrev pub invariant-loop-k : goal.invariant-loop-k
invariant-loop-k l = named no_seat l.self l.slot ≡ named no_seat (drop l.k l.self) l.slot
