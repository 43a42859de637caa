use Rattle.std.proofs.Common.{◌∙◌, ap, get_or, length}
use Rattle.std.proofs.lemmas.List.{length-set}
use Rattle.pb_graph.specs.Cuts.{all_sides}
use Rattle.pb_graph.proofs.CutLemmas.{narrow_hit, narrow_miss}
use Rattle.pb_graph.proofs.cuts.allowed.Goals as goal
use Rattle.pb_graph.proofs.cuts.allowed.Goals.{then-place-layer, else-place-layer}

pub loop-edge-preserved : goal.loop-edge-preserved
loop-edge-preserved c =
    elim c.if-place-layer.branch [
      | then-place-layer w ↦ let put = ap (λ v. v.items) w.allowed-is in record {
        room = ap length put ∙ length-set _ _ _ ∙ c.loop-edge.invariant.room;
        found = narrow_hit c.args.layer.now c.args.edges.now c.loop-edge.edge-index _ c.loop-edge-test.true c.loop-edge.allowed.items c.if-place-layer.allowed.items c.args.count w.index.result.now w.both.result w.if-place-layer.true c.loop-edge.invariant.room (c.requires.layer _ 0 (c.requires.edges c.loop-edge.edge-index _ c.loop-edge-test.true).0) w.index.ensures w.both.ensures put c.loop-edge.invariant.found;
      }
      | else-place-layer w ↦ let same = ap (λ v. v.items) w.allowed-is in record {
        room = ap length same ∙ c.loop-edge.invariant.room;
        found = λ place below. ap (λ l. get_or l place all_sides) same ∙ narrow_miss c.args.layer.now c.args.edges.now c.loop-edge.edge-index _ c.loop-edge-test.true c.loop-edge.allowed.items c.args.count w.if-place-layer.false c.loop-edge.invariant.found place below;
      }
    ]
