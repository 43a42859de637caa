use Rattle.std.proofs.Common.{◌≡◌, All, length}
use Rattle.pb_steal.specs.Crews.{IsEmpty}
use Rattle.pb_steal.proofs.deal.empty_deques.Given as goal

abbrev pub invariant-loop : goal.invariant-loop
invariant-loop g l = record {
  size : length l.owns.items ≡ l.counter;
  empty : All (IsEmpty l.room) l.owns.items;
}
