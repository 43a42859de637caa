use Rattle.std.proofs.Common.{take}
use Rattle.pb_linear.specs.Sizes.{leasts_of}
use Rattle.pb_graph.specs.Rows.{AreGroups}
use Rattle.pb_graph.proofs.readers.groups.Given as goal

abbrev pub invariant-loop-rule : goal.invariant-loop-rule
invariant-loop-rule l = AreGroups (leasts_of l.ranges) l.nodes l.reader.area l.reads (take l.rule-index l.reader.rules) l.groups.items
