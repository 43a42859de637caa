use Rattle.pb_layers.specs.Components.{AreSettled}
use Rattle.pb_layers.proofs.components.settle_along.Given as goal

abbrev pub invariant-loop-node : goal.invariant-loop-node
invariant-loop-node l = AreSettled l.graph.down.items l.nodes l.components.left.items l.components.ahead.items l.components.least.items l.components.depth.items
