use Rattle.std.proofs.Common.{◌≡◌, map, take}
use Rattle.std.specs.List.{All}
use Rattle.pb_recursion.specs.Plans.{named}
use Rattle.pb_views.specs.Seats.{IsSmall, no_seat}
use Rattle.pb_steps.specs.Stands.{AreSmall}
use Rattle.pb_steps.proofs.names.Names.all_named.Given as goal

abbrev pub invariant-loop-k : goal.invariant-loop-k
invariant-loop-k l = record {
  seats : l.seats.items ≡ map (named no_seat l.self) (take l.k l.slots);
  small : AreSmall l.self → All IsSmall l.seats.items;
}
