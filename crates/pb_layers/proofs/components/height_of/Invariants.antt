use Rattle.std.proofs.Common.{take}
use Rattle.std.specs.List.{Contains}
use Rattle.pb_layers.specs.Components.{IsHeight}
use Rattle.pb_layers.proofs.components.height_of.Given as goal

abbrev pub invariant-loop-node : goal.invariant-loop-node
invariant-loop-node l = IsHeight (Contains (take l.node-index l.nodes)) l.least l.depth l.root l.so_far l.height
