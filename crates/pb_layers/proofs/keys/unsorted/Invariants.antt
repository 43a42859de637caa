use Rattle.pb_layers.specs.Numbers.{AreKeys}
use Rattle.pb_layers.proofs.keys.unsorted.Given as goal

abbrev pub invariant-loop-root : goal.invariant-loop-root
invariant-loop-root l = AreKeys l.least l.depth l.root l.keys.items
