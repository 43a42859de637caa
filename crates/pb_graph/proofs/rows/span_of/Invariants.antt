use Rattle.std.proofs.Common.{◌≡◌, ℕ, ◌<◌, ◌≤◌, Some, slice_get}
use Rattle.pb_graph.specs.Nodes.{NodeValue}
use Rattle.pb_graph.proofs.rows.span_of.Given as goal

abbrev pub invariant-loop-number : goal.invariant-loop-number
invariant-loop-number l = record {
  order : l.first ≤ l.end;
  inside : l.end ≤ l.number;
  whole : (k : ℕ) (v : NodeValue) → k < l.number → slice_get l.nodes k ≡ Some v → l.matrix ≡ v.matrix → (l.first ≤ k) × (k < l.end);
}
