use Rattle.pb_layers.proofs.ListLemmas.{filled-all, filled-more, filled-none}
use Rattle.pb_layers.proofs.reach.fill.Goals as goal

pub loop-node-init : goal.loop-node-init
loop-node-init g c = filled-none _ _

pub loop-node-preserved : goal.loop-node-preserved
loop-node-preserved g c =
    filled-more c.args.values.now.items c.loop-node.values.items c.args.nodes.now c.args.value c.loop-node.node-index c.loop-node-test.true (c.requires c.loop-node.node-index 0 c.loop-node-test.true) c.loop-node.invariant

pub returns : goal.returns
returns g c = filled-all _ _ c.args.nodes.now _ c.loop-node.node-index c.loop-node-test.false c.loop-node.invariant
