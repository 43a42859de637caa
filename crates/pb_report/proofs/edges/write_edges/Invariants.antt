use Rattle.std.proofs.Common.{◌≡◌, ◌++◌, drop}
use Rattle.std.specs.List.{flat_map}
use Rattle.pb_report.specs.Report.{edge_line}
use Rattle.pb_report.proofs.edges.write_edges.Given as goal

abbrev pub invariant-loop-edge : goal.invariant-loop-edge
invariant-loop-edge l =
    l.text.items ++ flat_map (edge_line l.labels.items) (drop l.edge-index l.edges) ≡ l.fn.text.items ++ flat_map (edge_line l.labels.items) l.edges
