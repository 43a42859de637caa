use Rattle.std.proofs.Common.{◌≡◌, take}
use Rattle.pb_graph.specs.Rows.{met_reads}
use Rattle.pb_graph.proofs.edges.met_reads.Given as goal

abbrev pub invariant-loop-group : goal.invariant-loop-group
invariant-loop-group l = l.met.items ≡ met_reads l.source (take l.group-index l.groups)
