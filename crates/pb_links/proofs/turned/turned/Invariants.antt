use Rattle.pb_links.specs.Turned.{AreTurnedTo}
use Rattle.pb_links.proofs.turned.turned.Given as goal

abbrev pub invariant-loop-task : goal.invariant-loop-task
invariant-loop-task l = AreTurnedTo l.lists l.task l.after.items
