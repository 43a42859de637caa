use Rattle.std.proofs.Common.{take}
use Rattle.pb_layers.specs.Graphs.{IsFilled}
use Rattle.pb_layers.proofs.reach.fill.Given as goal

abbrev pub invariant-loop-node : goal.invariant-loop-node
invariant-loop-node g l = IsFilled g.row.T.Denot l.initial.values.items l.values.items (take l.node-index l.nodes) l.value
