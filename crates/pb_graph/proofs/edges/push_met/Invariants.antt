use Rattle.std.proofs.Common.{◌≡◌, ◌++◌, map, take}
use Rattle.std.specs.Prelude.{filter}
use Rattle.pb_graph.specs.Rows.{is_touched}
use Rattle.pb_graph.proofs.edges.push_met.Given as goal

abbrev pub invariant-loop-read : goal.invariant-loop-read
invariant-loop-read l = l.met.items ≡ l.initial.met.items ++ map (λ o. o.seen) (filter (is_touched l.source) (take l.read-index l.group.reads))
