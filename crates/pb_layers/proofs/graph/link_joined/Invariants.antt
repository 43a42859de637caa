use Rattle.std.proofs.Common.{[], take}
use Rattle.pb_layers.specs.Graphs.{IsLinked}
use Rattle.pb_layers.specs.Layers.{graph_of}
use Rattle.pb_layers.specs.Orders.{Leads}
use Rattle.pb_layers.proofs.graph.link_joined.Given as goal

abbrev pub invariant-loop-pair : goal.invariant-loop-pair
invariant-loop-pair l = IsLinked (Leads (graph_of (take l.pair-index l.joined) [])) l.nodes l.graph.down.items l.graph.up.items
