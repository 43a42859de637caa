use Rattle.std.specs.List.{All}
use Rattle.pb_linear.specs.Sizes.{leasts_of}
use Rattle.pb_graph.specs.Cached.{IsRow}
use Rattle.pb_graph.proofs.rows.axis_rows.Given as goal

abbrev pub invariant-loop-node : goal.invariant-loop-node
invariant-loop-node l = All (IsRow (leasts_of l.ranges) l.sources l.read l.axis) l.rows.items
