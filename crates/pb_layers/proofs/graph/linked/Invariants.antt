use Rattle.std.proofs.Common.{take}
use Rattle.pb_layers.specs.Graphs.{IsLinked}
use Rattle.pb_layers.specs.Layers.{graph_of}
use Rattle.pb_layers.specs.Orders.{Leads}
use Rattle.pb_layers.proofs.graph.linked.Given as goal

abbrev pub invariant-loop-edge : goal.invariant-loop-edge
invariant-loop-edge l = IsLinked (Leads (graph_of l.joined (take l.edge-index l.edges))) l.nodes l.graph.down.items l.graph.up.items
