use Rattle.std.proofs.Common.{◌≡◌, take}
use Rattle.std.specs.List.{All}
use Rattle.pb_recursion.specs.Plans.{names_of_reads}
use Rattle.pb_views.specs.Seats.{IsSmall}
use Rattle.pb_steps.specs.Stands.{AreSmall}
use Rattle.pb_steps.proofs.names.Names.of_reads.Given as goal

abbrev pub invariant-loop-k : goal.invariant-loop-k
invariant-loop-k l = record {
  names : l.list.items ≡ names_of_reads (take l.k l.reads);
  small : All IsSmall l.reads → AreSmall l.list.items;
}
