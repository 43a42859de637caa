use Rattle.pb_layers.specs.Components.{AreFound}
use Rattle.pb_layers.specs.Graphs.{Out}
use Rattle.pb_layers.specs.Layers.{graph_of}
use Rattle.pb_layers.specs.Orders.{Leads}
use Rattle.pb_layers.proofs.AnswerLemmas.{found-like, ok-like, turned-from}
use Rattle.pb_layers.proofs.order.components_of.Goals as goal

pub find_components-requires : goal.find_components-requires
find_components-requires c = turned-from (Leads (graph_of c.args.joined.now c.args.edges.now)) _ _ _ c.in_ok-graph.ensures

pub returns : goal.returns
returns c =
    ok-like c.find_components.result (λ f. AreFound (Out c.in_ok-graph.graph.down.items) c.args.nodes f.least.items f.depth.items) _
    (λ f found. found-like (Out c.in_ok-graph.graph.down.items) (Leads (graph_of c.args.joined.now c.args.edges.now)) c.args.nodes f.least.items f.depth.items c.in_ok-graph.ensures.is_down found)
    c.find_components.ensures
