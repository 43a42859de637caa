use Rattle.std.proofs.Common.{◌≡◌, take}
use Rattle.pb_graph.specs.Rows.{joined_by}
use Rattle.pb_graph.proofs.joining.joined.Given as goal

abbrev pub invariant-loop-rule : goal.invariant-loop-rule
invariant-loop-rule l = l.joined.items ≡ joined_by l.nodes (take l.rule-index l.wide_rules)
