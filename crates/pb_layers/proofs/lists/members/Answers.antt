use Rattle.std.proofs.Common.{◌∙◌, ap}
use Rattle.pb_layers.proofs.ServedLemmas.{members-pass, members-push}
use Rattle.pb_layers.proofs.lists.members.Goals as goal
use Rattle.pb_layers.proofs.lists.members.Goals.{then-least-node+in_ok-push, else-least-node}

pub loop-node-preserved : goal.loop-node-preserved
loop-node-preserved c =
    elim c.if-least-node.branch [
      | then-least-node+in_ok-push w ↦ members-push c.args.least.now c.args.root c.loop-node.node c.loop-node.members.items c.if-least-node.members.items w.if-least-node.true (ap (λ v. v.items) w.members-is ∙ w.in_ok-push.ensures.items) c.loop-node.invariant
      | else-least-node w ↦ members-pass c.args.least.now c.args.root c.loop-node.node c.loop-node.members.items c.if-least-node.members.items w.if-least-node.false (ap (λ v. v.items) w.members-is) c.loop-node.invariant
    ]
