use Rattle.pb_layers.specs.Lists.{AreFirstLists}
use Rattle.pb_layers.proofs.lists.first_lists.Given as goal

abbrev pub invariant-loop-list : goal.invariant-loop-list
invariant-loop-list l = AreFirstLists l.edges l.least l.list l.lists.items
