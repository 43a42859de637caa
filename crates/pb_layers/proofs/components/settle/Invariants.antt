use Rattle.std.proofs.Common.{ℕ}
use Rattle.pb_layers.specs.Components.{AreSettled}
use Rattle.pb_layers.specs.Graphs.{IsMarked, count}
use Rattle.pb_layers.proofs.components.settle.Given as goal

abbrev pub invariant-left : goal.invariant-left
invariant-left l = record {
  settled : AreSettled l.graph.down.items l.nodes l.components.left.items l.components.ahead.items l.components.least.items l.components.depth.items;
  fewer : (v : ℕ) → IsMarked l.components.left.items v → IsMarked l.fn.components.left.items v;
}

abbrev pub decreases-left : goal.decreases-left
decreases-left l = count l.components.left.items
