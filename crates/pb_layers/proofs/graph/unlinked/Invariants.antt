use Rattle.std.proofs.Common.{◌≡◌, [], replicate}
use Rattle.pb_layers.proofs.graph.unlinked.Given as goal

abbrev pub invariant-loop-node : goal.invariant-loop-node
invariant-loop-node l = l.targets.items ≡ replicate l._node []
