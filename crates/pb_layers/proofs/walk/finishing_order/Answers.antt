use Rattle.std.proofs.Common.{arith}
use Rattle.pb_layers.proofs.walk.finishing_order.Goals as goal

pub walk_on-requires-clause-inside : goal.walk_on-requires-clause-inside
walk_on-requires-clause-inside c = λ u v out. let below = c.requires.inside u v out in omega (arith, c.in_ok-meet.ensures.room, c.loop-node.invariant.room)
