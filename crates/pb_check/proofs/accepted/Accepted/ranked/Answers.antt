use Rattle.std.proofs.Common.{◌<◌, ◌^◌, length, subst, sym}
use Rattle.std.specs.Prelude.{slice_index}
use Rattle.pb_linear.specs.Sizes.{sizes_of}
use Rattle.pb_graph.specs.Layerings.{LayeringValue}
use Rattle.pb_program.specs.Trees.{bare_prog}
use Rattle.pb_check.specs.Ranked.{cell}
use Rattle.pb_check.proofs.AcceptedLemmas.{few, layer_inside, near_x, near_y, ranked_by, segment_inside, some_segment}
use Rattle.pb_check.proofs.PlacedLemmas.{found_some, held_in, sizes_top}
use Rattle.pb_check.proofs.accepted.Accepted.ranked.Goals as goal

pub segment_of-requires-clause-few : goal.segment_of-requires-clause-few
segment_of-requires-clause-few c = subst (λ ns. length ns < 2 ^ 32) (sym c.nodes.ensures) (few c.args.self.now c.found-found.ensures.accepted c.args.t c.found-found.result.now c.found-found.ensures.there (sizes_of c.args.s.now) (cell c.args.matrix c.args.x c.args.y) c.requires)

pub segment_of-requires-clause-sizes : goal.segment_of-requires-clause-sizes
segment_of-requires-clause-sizes c = sizes_top (bare_prog c.args.self.now.program) c.args.t c.args.s.now (cell c.args.matrix c.args.x c.args.y) c.requires

pub unwrap-segment-requires : goal.unwrap-segment-requires
unwrap-segment-requires c =
    found_some c.segment_of.result c.found-found.result.now.nodes (sizes_of c.args.s.now) (cell c.args.matrix c.args.x c.args.y) c.nodes.result.now c.nodes.ensures c.segment_of.ensures.none
    (some_segment c.args.self.now c.found-found.ensures.accepted c.args.t c.found-found.result.now c.found-found.ensures.there (sizes_of c.args.s.now) (cell c.args.matrix c.args.x c.args.y) c.requires)

pub rank_in-requires-clause-segment : goal.rank_in-requires-clause-segment
rank_in-requires-clause-segment c =
    subst (λ (l : LayeringValue). c.unwrap-segment.result < length l.layer) (sym c.order.ensures)
    (segment_inside c.args.self.now c.found-found.ensures.accepted c.args.t c.found-found.result.now c.found-found.ensures.there (sizes_of c.args.s.now) (cell c.args.matrix c.args.x c.args.y) c.requires c.unwrap-segment.result
    (held_in c.segment_of.result c.unwrap-segment.result c.nodes.result.now c.found-found.result.now.nodes (sizes_of c.args.s.now) (cell c.args.matrix c.args.x c.args.y) c.unwrap-segment.ensures c.nodes.ensures c.segment_of.ensures.found))

pub rank_in-requires-clause-layer : goal.rank_in-requires-clause-layer
rank_in-requires-clause-layer c =
    subst (λ (l : LayeringValue). slice_index l.layer c.unwrap-segment.result < length l.layers) (sym c.order.ensures)
    (layer_inside c.args.self.now c.found-found.ensures.accepted c.args.t c.found-found.result.now c.found-found.ensures.there (sizes_of c.args.s.now) (cell c.args.matrix c.args.x c.args.y) c.requires c.unwrap-segment.result
    (held_in c.segment_of.result c.unwrap-segment.result c.nodes.result.now c.found-found.result.now.nodes (sizes_of c.args.s.now) (cell c.args.matrix c.args.x c.args.y) c.unwrap-segment.ensures c.nodes.ensures c.segment_of.ensures.found))

pub rank_in-requires-clause-x : goal.rank_in-requires-clause-x
rank_in-requires-clause-x c =
    near_x c.args.self.now c.found-found.ensures.accepted c.args.t c.found-found.result.now c.found-found.ensures.there (sizes_of c.args.s.now) (cell c.args.matrix c.args.x c.args.y) c.requires c.unwrap-segment.result
    (held_in c.segment_of.result c.unwrap-segment.result c.nodes.result.now c.found-found.result.now.nodes (sizes_of c.args.s.now) (cell c.args.matrix c.args.x c.args.y) c.unwrap-segment.ensures c.nodes.ensures c.segment_of.ensures.found)

pub rank_in-requires-clause-y : goal.rank_in-requires-clause-y
rank_in-requires-clause-y c =
    near_y c.args.self.now c.found-found.ensures.accepted c.args.t c.found-found.result.now c.found-found.ensures.there (sizes_of c.args.s.now) (cell c.args.matrix c.args.x c.args.y) c.requires c.unwrap-segment.result
    (held_in c.segment_of.result c.unwrap-segment.result c.nodes.result.now c.found-found.result.now.nodes (sizes_of c.args.s.now) (cell c.args.matrix c.args.x c.args.y) c.unwrap-segment.ensures c.nodes.ensures c.segment_of.ensures.found)

pub returns : goal.returns
returns c =
    ranked_by c.args.self.now c.found-found.ensures.accepted c.args.t c.found-found.result.now c.found-found.ensures.there (sizes_of c.args.s.now) (cell c.args.matrix c.args.x c.args.y) c.requires c.unwrap-segment.result
    (held_in c.segment_of.result c.unwrap-segment.result c.nodes.result.now c.found-found.result.now.nodes (sizes_of c.args.s.now) (cell c.args.matrix c.args.x c.args.y) c.unwrap-segment.ensures c.nodes.ensures c.segment_of.ensures.found) c.order.result.now c.order.ensures _ c.rank_in.ensures
