use Rattle.std.proofs.Common.{take}
use Rattle.std.specs.Prelude.{◌==◌, filter}
use Rattle.pb_linear.specs.Sizes.{leasts_of}
use Rattle.pb_graph.specs.Rows.{AreOwn}
use Rattle.pb_graph.proofs.readers.group_of.Given as goal

abbrev pub invariant-loop-number : goal.invariant-loop-number
invariant-loop-number l = AreOwn (leasts_of l.ranges) l.nodes l.area (filter (λ r. r.rule == l.rule) (take l.number l.reads)) l.own.items
