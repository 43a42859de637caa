use Rattle.std.proofs.Common.{take}
use Rattle.pb_linear.specs.Sizes.{leasts_of}
use Rattle.pb_graph.specs.Cached.{AreRows}
use Rattle.pb_graph.proofs.rows.all_rows.Given as goal

abbrev pub invariant-loop-read : goal.invariant-loop-read
invariant-loop-read l = AreRows (leasts_of l.ranges) l.nodes (take l.read-index l.reads) l.rows.items
