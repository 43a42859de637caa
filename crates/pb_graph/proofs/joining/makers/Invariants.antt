use Rattle.std.proofs.Common.{◌≡◌, ℕ, map, take}
use Rattle.std.specs.Prelude.{filter}
use Rattle.std.specs.List.{enumerate_from}
use Rattle.pb_graph.specs.Edges.{is_among}
use Rattle.pb_graph.specs.Nodes.{NodeValue}
use Rattle.pb_graph.proofs.joining.makers.Given as goal

abbrev pub invariant-loop-number : goal.invariant-loop-number
invariant-loop-number l = l.makers.items ≡ map (λ u. u.0) (filter (λ (u : ℕ × NodeValue). is_among u.1.rules l.rule) (take l.number (enumerate_from 0 l.nodes)))
