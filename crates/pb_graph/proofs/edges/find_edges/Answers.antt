use Rattle.std.proofs.Common.{map, subst, sym, arith}
use Rattle.pb_graph.specs.Edges.{edge, edges, link, links, sources}
use Rattle.pb_graph.specs.Rows.{AreGroups, plain, sides, sides_of}
use Rattle.pb_graph.proofs.EdgeLemmas.{edges_are, links_are, sides_are}
use Rattle.pb_graph.proofs.NumberedLemmas.{at_index, flat_end, flat_more}
use Rattle.pb_graph.proofs.edges.find_edges.Goals as goal

pub loop-reader-preserved : goal.loop-reader-preserved
loop-reader-preserved c =
    let p = plain c.args.ranges.now c.args.nodes.now c.args.reads.now in
    let u = c.loop-reader.reader in
    let nodes = c.args.nodes.now in
    let x = c.index-nodes-reader.result in
    let at = at_index nodes u x (omega arith) c.index-nodes-reader.is in
    let gs = subst (AreGroups p.leasts p.nodes x.area p.reads x.rules) (sym c.deref-in-loop-reader.ensures.value) c.in_ok-groups.ensures.found in
    let done = c.in_ok-push_edges.ensures in
    record {
      edges = flat_more (λ u. map (edge p u) (sources p u)) nodes u x _ _ _ at c.loop-reader.invariant.edges done.edges (edges_are p u x _ _ gs (omega arith));
      links = flat_more (λ u. map (link p u) (sources p u)) nodes u x _ _ _ at c.loop-reader.invariant.links done.links (links_are p u x _ _ gs (omega arith));
      sides = flat_more (λ u. map (sides_of p u) (sources p u)) nodes u x _ _ _ at c.loop-reader.invariant.sides done.sides (sides_are p u x _ _ gs (omega arith));
    }

pub returns-clause-edges : goal.returns-clause-edges
unfolding edges
returns-clause-edges c =
    let p = plain c.args.ranges.now c.args.nodes.now c.args.reads.now in
    flat_end (λ u. map (edge p u) (sources p u)) c.args.nodes.now c.loop-reader.reader _ (omega arith) c.loop-reader.invariant.edges

pub returns-clause-links : goal.returns-clause-links
unfolding links
returns-clause-links c =
    let p = plain c.args.ranges.now c.args.nodes.now c.args.reads.now in
    flat_end (λ u. map (link p u) (sources p u)) c.args.nodes.now c.loop-reader.reader _ (omega arith) c.loop-reader.invariant.links

pub returns-clause-sides : goal.returns-clause-sides
unfolding sides
returns-clause-sides c =
    let p = plain c.args.ranges.now c.args.nodes.now c.args.reads.now in
    flat_end (λ u. map (sides_of p u) (sources p u)) c.args.nodes.now c.loop-reader.reader _ (omega arith) c.loop-reader.invariant.sides
