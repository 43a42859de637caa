use Rattle.std.proofs.Common.{get_or, arith}
use Rattle.pb_layers.proofs.ReachedLemmas.{out-read}
use Rattle.pb_layers.proofs.walk.step.Goals as goal

pub meet-requires-clause-node : goal.meet-requires-clause-node
meet-requires-clause-node c =
    c.requires.inside c.args.stop.node (get_or c.nodes-nodes.result.now c.args.stop.followed 0) (out-read c.args.targets.now c.args.stop.node c.nodes-nodes.result.now c.args.stop.followed 0 (omega (arith, c.requires.room)) c.index-targets-stop.result c.index-targets-stop.is c.nodes-nodes.ensures c.if-stop-nodes.true)
