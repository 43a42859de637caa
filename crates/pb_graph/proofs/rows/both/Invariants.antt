use Rattle.std.proofs.Common.{◌≡◌, take}
use Rattle.pb_graph.specs.Cached.{both}
use Rattle.pb_graph.proofs.rows.both.Given as goal

abbrev pub invariant-loop-number : goal.invariant-loop-number
invariant-loop-number l = l.row.items ≡ both (take l.number l.x) (take l.number l.y)
