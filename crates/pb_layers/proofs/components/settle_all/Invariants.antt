use Rattle.std.proofs.Common.{◌≡◌, ◌<◌, ℕ, false}
use Rattle.pb_layers.specs.Components.{AreSettled}
use Rattle.pb_layers.specs.Graphs.{marked}
use Rattle.pb_layers.proofs.components.settle_all.Given as goal

abbrev pub invariant-loop-node : goal.invariant-loop-node
invariant-loop-node l = record {
  settled : AreSettled l.graph.down.items l.nodes l.components.left.items l.components.ahead.items l.components.least.items l.components.depth.items;
  found : (v : ℕ) → v < l.node → marked l.components.left.items v ≡ false;
}
