use Rattle.std.proofs.Common.{ap}
use Rattle.std.proofs.lemmas.Bool.{both_ways}
use Rattle.pb_layers.proofs.ServedLemmas.{served-hit, served-miss}
use Rattle.pb_layers.proofs.lists.served.Goals as goal
use Rattle.pb_layers.proofs.lists.served.Goals.{then-spoils, else-spoils}

pub loop-edge-preserved : goal.loop-edge-preserved
loop-edge-preserved c =
    elim c.if-spoils.branch [
      | then-spoils w ↦ served-hit c.args.edges.now c.args.least.now c.args.list c.loop-edge.edge-index _ c.loop-edge-test.true c.loop-edge.served.items c.if-spoils.served.items (ap (λ v. v.items) w.served-is) c.requires.edges c.requires.least (c.spoils.ensures.0 w.if-spoils.true) c.loop-edge.invariant
      | else-spoils w ↦ served-miss c.args.edges.now c.args.least.now c.args.list c.loop-edge.edge-index _ c.loop-edge-test.true c.loop-edge.served.items c.if-spoils.served.items (ap (λ v. v.items) w.served-is) (λ s. both_ways c.spoils.result w.if-spoils.false (c.spoils.ensures.1 s)) c.loop-edge.invariant
    ]
