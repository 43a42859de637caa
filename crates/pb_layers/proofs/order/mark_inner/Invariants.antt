use Rattle.std.proofs.Common.{take}
use Rattle.pb_layers.specs.Numbers.{AreMarked}
use Rattle.pb_layers.proofs.order.mark_inner.Given as goal

abbrev pub invariant-loop-edge : goal.invariant-loop-edge
invariant-loop-edge l = AreMarked (take l.edge-index l.edges) l.layer l.initial.layers.items l.layers.items
