use Rattle.std.proofs.Common.{◌≡◌, ◌++◌, ◌∷◌, take}
use Rattle.pb_graph.specs.Rows.{with_others}
use Rattle.pb_graph.proofs.joining.push_joined.Given as goal

abbrev pub invariant-loop-to : goal.invariant-loop-to
invariant-loop-to l = l.joined.items ≡ l.initial.joined.items ++ with_others (l.from ∷ take l.to-index l.others)
