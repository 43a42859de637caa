use Rattle.std.proofs.Common.{◌≡◌, ◌<◌, length}
use Rattle.std.specs.List.{All}
use Rattle.pb_graph.specs.Cached.{AreFirsts}
use Rattle.pb_graph.proofs.alike.firsts.Given as goal

abbrev pub invariant-loop-number : goal.invariant-loop-number
invariant-loop-number l = record {
  room : length l.firsts.items ≡ l.number;
  distinct : All (λ k. k < l.number) l.distinct.items;
  found : AreFirsts l.axis l.nodes l.firsts.items;
}
