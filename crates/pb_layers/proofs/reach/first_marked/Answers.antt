use Rattle.std.proofs.lemmas.List.{take_all}
use Rattle.std.proofs.lemmas.List.Elements.{All-more, All-same}
use Rattle.std.proofs.Common.{◌≡◌, false, sym}
use Rattle.pb_layers.specs.Graphs.{marked}
use Rattle.pb_layers.proofs.reach.first_marked.Goals as goal

pub loop-node-preserved : goal.loop-node-preserved
loop-node-preserved c = All-more (λ v. marked c.args.marks.now v ≡ false) c.args.nodes.now c.loop-node.node-index 0 c.loop-node-test.true c.loop-node.invariant c.if-marks-node.false

pub returns : goal.returns
returns c = All-same (λ v. marked c.args.marks.now v ≡ false) c.args.nodes.now _ (sym (take_all c.loop-node.node-index c.args.nodes.now c.loop-node-test.false)) c.loop-node.invariant
