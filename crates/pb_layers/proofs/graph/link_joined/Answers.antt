use Rattle.pb_layers.proofs.LinkLemmas.{pair-linked}
use Rattle.pb_layers.proofs.graph.link_joined.Goals as goal

pub loop-pair-preserved : goal.loop-pair-preserved
loop-pair-preserved c =
    pair-linked c.args.joined.now c.loop-pair.pair-index c.args.nodes _ _ _ _ _ _ _ c.loop-pair-test.true c.requires c.loop-pair.invariant c.in_ok-link.ensures.down c.in_ok-link.ensures.up c.in_ok-link-2.ensures.down c.in_ok-link-2.ensures.up
