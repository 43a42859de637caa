use Rattle.pb_layers.specs.Walks.{IsWalk}
use Rattle.pb_layers.proofs.walk.finishing_order.Given as goal

abbrev pub invariant-loop-node : goal.invariant-loop-node
invariant-loop-node l = IsWalk l.nodes l.walk.met.items l.walk.way.items l.walk.finished.items
