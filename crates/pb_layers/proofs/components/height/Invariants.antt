use Rattle.std.proofs.Common.{take}
use Rattle.pb_layers.specs.Components.{IsHeight, LeftBy}
use Rattle.pb_layers.proofs.components.height.Given as goal

abbrev pub invariant-loop-member : goal.invariant-loop-member
invariant-loop-member l = IsHeight (LeftBy l.targets (take l.member-index l.members)) l.least l.depth l.root 0 l.height
