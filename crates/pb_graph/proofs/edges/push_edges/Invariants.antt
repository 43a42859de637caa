use Rattle.std.proofs.Common.{◌≡◌, ◌++◌, ◌≤◌, ◌-◌, map}
use Rattle.pb_graph.specs.Rows.{edge_by, link_by, side_by, sources_by}
use Rattle.pb_graph.proofs.edges.push_edges.Given as goal

abbrev pub invariant-loop-source : goal.invariant-loop-source
invariant-loop-source l = record {
  inside : l.source ≤ l.end;
  edges : l.found.edges.items ≡ l.initial.found.edges.items ++ map (edge_by l.reader l.groups) (sources_by l.groups l.source);
  links : l.found.links.items ≡ l.initial.found.links.items ++ map (link_by l.reader l.groups) (sources_by l.groups l.source);
  sides : l.found.sides.items ≡ l.initial.found.sides.items ++ map (side_by l.reader l.groups) (sources_by l.groups l.source);
}

abbrev pub decreases-loop-source : goal.decreases-loop-source
decreases-loop-source l = l.end - l.source
