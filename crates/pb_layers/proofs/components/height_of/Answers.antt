use Rattle.std.proofs.Common.{◌∙◌}
use Rattle.pb_layers.proofs.NamedLemmas.{height-in, height-out}
use Rattle.pb_layers.proofs.components.height_of.Goals as goal
use Rattle.pb_layers.proofs.components.height_of.Goals.{then-least-node, else-least-node}

pub loop-node-preserved : goal.loop-node-preserved
loop-node-preserved c =
    elim c.if-least-node.branch [
      | then-least-node w ↦ height-out c.args.least.now c.args.depth.now c.args.root c.args.so_far c.args.nodes.now c.loop-node.node-index c.loop-node.height c.loop-node-test.true c.loop-node.invariant c.if-least-node.height w.if-least-node.true (w.height-is ∙ w.max-height.ensures)
      | else-least-node w ↦ height-in c.args.least.now c.args.depth.now c.args.root c.args.so_far c.args.nodes.now c.loop-node.node-index c.loop-node.height c.loop-node-test.true c.loop-node.invariant c.if-least-node.height w.if-least-node.false w.height-is
    ]
