use Rattle.pb_graph.specs.Rows.{edge_by, link_by, side_by}
use Rattle.pb_graph.proofs.SourceLemmas.{begun, pushed}
use Rattle.pb_graph.proofs.edges.push_edges.Goals as goal

pub loop-source-init : goal.loop-source-init
loop-source-init c =
    let gs = c.args.groups.now in
    let u = c.args.reader in
    let first = c.next_source-source in
    record {
      inside = first.ensures.order.1;
      edges = begun gs (edge_by u gs) _ first.result first.ensures.none;
      links = begun gs (link_by u gs) _ first.result first.ensures.none;
      sides = begun gs (side_by u gs) _ first.result first.ensures.none;
    }

pub loop-source-preserved : goal.loop-source-preserved
loop-source-preserved c =
    let gs = c.args.groups.now in
    let u = c.args.reader in
    let l = c.loop-source in
    let next = c.next_source-source-in-loop-source in
    let more = c.in_ok-push_if_met.ensures in
    record {
      inside = next.ensures.order.1;
      edges = pushed gs (edge_by u gs) _ _ _ l.source _ l.invariant.edges more.edges next.ensures.order.0 next.ensures.none;
      links = pushed gs (link_by u gs) _ _ _ l.source _ l.invariant.links more.links next.ensures.order.0 next.ensures.none;
      sides = pushed gs (side_by u gs) _ _ _ l.source _ l.invariant.sides more.sides next.ensures.order.0 next.ensures.none;
    }
