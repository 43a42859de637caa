use Rattle.std.proofs.Common.{◌≡◌, ℕ, ◌<◌, ◌≤◌, [], take}
use Rattle.pb_graph.specs.Rows.{met_reads}
use Rattle.pb_graph.proofs.edges.next_source.Given as goal

abbrev pub invariant-loop-group : goal.invariant-loop-group
invariant-loop-group l = record {
  order : (l.source ≤ l.next) × (l.next ≤ l.end);
  none : (k : ℕ) → l.source ≤ k → k < l.next → met_reads k (take l.group-index l.groups) ≡ [];
}
