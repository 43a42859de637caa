use Rattle.pb_layers.specs.Lists.{AreMembers}
use Rattle.pb_layers.proofs.lists.members.Given as goal

abbrev pub invariant-loop-node : goal.invariant-loop-node
invariant-loop-node l = AreMembers l.least l.root l.node l.members.items
