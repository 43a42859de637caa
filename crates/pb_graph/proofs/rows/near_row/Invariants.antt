use Rattle.std.proofs.Common.{◌≡◌, map, take}
use Rattle.pb_linear.specs.Sizes.{leasts_of}
use Rattle.pb_graph.specs.Cached.{near_on}
use Rattle.pb_graph.proofs.rows.near_row.Given as goal

abbrev pub invariant-loop-number : goal.invariant-loop-number
invariant-loop-number l = l.row.items ≡ map (near_on (leasts_of l.ranges) l.read l.axis l.area) (take l.number l.nodes)
