use Rattle.std.proofs.Common.{◌≡◌, ◌++◌, map}
use Rattle.pb_check.specs.Cuts.{node}
use Rattle.pb_check.proofs.cuts.add_nodes.Given as goal

-- what is left gives the rest
abbrev pub invariant-loop-segment : goal.invariant-loop-segment
invariant-loop-segment l = l.nodes.items ++ map (node l.matrix) l.segment-iterator.rest.items ≡ l.fn.nodes.items ++ map (node l.matrix) l.fn.segments.items
