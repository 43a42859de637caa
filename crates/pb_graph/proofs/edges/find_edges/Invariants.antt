use Rattle.std.proofs.Common.{◌≡◌, take, map}
use Rattle.std.specs.List.{flat_map}
use Rattle.pb_graph.specs.Edges.{edge, link, numbered, sources}
use Rattle.pb_graph.specs.Rows.{plain, sides_of}
use Rattle.pb_graph.proofs.edges.find_edges.Given as goal

abbrev pub invariant-loop-reader : goal.invariant-loop-reader
invariant-loop-reader l = record {
  edges : l.found.edges.items ≡ flat_map (λ u. map (edge (plain l.ranges l.nodes l.reads) u) (sources (plain l.ranges l.nodes l.reads) u)) (take l.reader (numbered (plain l.ranges l.nodes l.reads)));
  links : l.found.links.items ≡ flat_map (λ u. map (link (plain l.ranges l.nodes l.reads) u) (sources (plain l.ranges l.nodes l.reads) u)) (take l.reader (numbered (plain l.ranges l.nodes l.reads)));
  sides : l.found.sides.items ≡ flat_map (λ u. map (sides_of (plain l.ranges l.nodes l.reads) u) (sources (plain l.ranges l.nodes l.reads) u)) (take l.reader (numbered (plain l.ranges l.nodes l.reads)));
}
