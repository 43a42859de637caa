use Rattle.std.proofs.Common.{◌≡◌, take}
use Rattle.pb_graph.specs.Rows.{met_rules}
use Rattle.pb_graph.proofs.edges.met_rules.Given as goal

abbrev pub invariant-loop-group : goal.invariant-loop-group
invariant-loop-group l = l.met.items ≡ met_rules l.source (take l.group-index l.groups)
