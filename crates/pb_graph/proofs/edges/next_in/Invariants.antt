use Rattle.std.proofs.Common.{◌≡◌, ℕ, ◌<◌, ◌≤◌, [], take}
use Rattle.std.specs.Prelude.{filter}
use Rattle.pb_graph.specs.Rows.{is_touched}
use Rattle.pb_graph.proofs.edges.next_in.Given as goal

abbrev pub invariant-loop-read : goal.invariant-loop-read
invariant-loop-read l = record {
  order : (l.source ≤ l.next) × (l.next ≤ l.end);
  none : (k : ℕ) → l.source ≤ k → k < l.next → filter (is_touched k) (take l.read-index l.group.reads) ≡ [];
}
