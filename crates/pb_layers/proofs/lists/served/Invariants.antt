use Rattle.std.proofs.Common.{take}
use Rattle.pb_layers.specs.Lists.{AreServed}
use Rattle.pb_layers.proofs.lists.served.Given as goal

abbrev pub invariant-loop-edge : goal.invariant-loop-edge
invariant-loop-edge l = AreServed (take l.edge-index l.edges) l.least l.list l.served.items
