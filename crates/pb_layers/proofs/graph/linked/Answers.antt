use Rattle.pb_layers.proofs.LinkLemmas.{edge-linked}
use Rattle.pb_layers.proofs.graph.linked.Goals as goal

pub loop-edge-preserved : goal.loop-edge-preserved
loop-edge-preserved c =
    edge-linked c.args.joined.now c.args.edges.now c.loop-edge.edge-index c.args.nodes _ _ _ _ _ c.loop-edge-test.true c.requires.edges c.loop-edge.invariant c.in_ok-link.ensures.down c.in_ok-link.ensures.up
