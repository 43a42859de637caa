use Rattle.std.proofs.Common.{take}
use Rattle.pb_layers.specs.Graphs.{IsVisited}
use Rattle.pb_layers.proofs.reach.visit_all.Given as goal

abbrev pub invariant-loop-node : goal.invariant-loop-node
invariant-loop-node l = IsVisited (take l.node-index l.nodes) l.initial.within.items l.initial.found.items l.within.items l.found.items
