use Rattle.pb_layers.specs.Lists.{AllHaveLists}
use Rattle.pb_layers.proofs.lists.first_unserved.Given as goal

abbrev pub invariant-loop-node : goal.invariant-loop-node
invariant-loop-node l = AllHaveLists l.least l.lists l.node
