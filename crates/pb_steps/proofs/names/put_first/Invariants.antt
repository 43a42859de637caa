use Rattle.std.proofs.Common.{◌≡◌, ◌++◌, ◌-◌, drop}
use Rattle.std.specs.List.{All, zip}
use Rattle.pb_views.specs.Seats.{IsSmall}
use Rattle.pb_steps.specs.Stands.{AreSmall}
use Rattle.pb_steps.proofs.names.put_first.Given as goal

abbrev pub invariant-loop-given : goal.invariant-loop-given
invariant-loop-given l = record {
  names : l.list.items ≡ drop (l.count - l.given) (zip l.slots l.seats) ++ l.initial.list.items;
  small : AreSmall l.initial.list.items → All IsSmall l.seats → AreSmall l.list.items;
}
