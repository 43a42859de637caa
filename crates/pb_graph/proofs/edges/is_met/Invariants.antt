use Rattle.std.proofs.Common.{◌≡◌, false, take}
use Rattle.std.specs.List.{list_any}
use Rattle.pb_graph.specs.Rows.{is_touched}
use Rattle.pb_graph.proofs.edges.is_met.Given as goal

abbrev pub invariant-loop-read : goal.invariant-loop-read
invariant-loop-read l = list_any (is_touched l.source) (take l.read-index l.group.reads) ≡ false
