use Rattle.pb_layers.proofs.ReachedLemmas.{visited-all, visited-more, visited-none}
use Rattle.pb_layers.proofs.reach.visit_all.Goals as goal

pub loop-node-init : goal.loop-node-init
loop-node-init c = visited-none _ _

pub loop-node-preserved : goal.loop-node-preserved
loop-node-preserved c = visited-more c.args.nodes.now c.loop-node.node-index _ _ _ _ _ _ c.loop-node-test.true c.loop-node.invariant c.in_ok-visit.ensures

pub returns : goal.returns
returns c = visited-all c.args.nodes.now c.loop-node.node-index _ _ _ _ c.loop-node-test.false c.loop-node.invariant
