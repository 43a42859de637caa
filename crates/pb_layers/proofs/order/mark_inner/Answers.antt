use Rattle.std.proofs.Common.{[], ap, get_or, refl, arith}
use Rattle.pb_layers.specs.declared.link.Edge.{Edge}
use Rattle.pb_layers.proofs.NumberLemmas.{marked-hit, marked-miss}
use Rattle.pb_layers.proofs.order.mark_inner.Goals as goal
use Rattle.pb_layers.proofs.order.mark_inner.Goals.{then-place-layer, else-place-layer}

abbrev no_edge : Edge
no_edge = record { reader = 0; source = 0; serves = [] }

pub loop-edge-preserved : goal.loop-edge-preserved
loop-edge-preserved c =
    let inside = c.requires.edges c.loop-edge.edge-index no_edge c.loop-edge-test.true in
    let place = c.requires.layer (get_or c.args.edges.now c.loop-edge.edge-index no_edge).reader 0 inside.0 in
    elim c.if-place-layer.branch [
      | then-place-layer w ↦ marked-hit c.args.edges.now c.args.layer.now c.args.layers.now.items c.loop-edge.edge-index no_edge c.loop-edge-test.true c.loop-edge.layers.items c.if-place-layer.layers.items w.index_mut.result.now _ refl w.if-place-layer.true (omega (arith, place, c.loop-edge.invariant.room)) w.index_mut.ensures.value (ap (λ v. v.items) w.layers-is) c.loop-edge.invariant
      | else-place-layer w ↦ marked-miss c.args.edges.now c.args.layer.now c.args.layers.now.items c.loop-edge.edge-index no_edge c.loop-edge-test.true c.loop-edge.layers.items c.if-place-layer.layers.items _ refl w.if-place-layer.false (ap (λ v. v.items) w.layers-is) c.loop-edge.invariant
    ]
