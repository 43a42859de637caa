use Rattle.std.proofs.Common.{arith}
use Rattle.pb_layers.proofs.walk.walk_on.Goals as goal

pub step-requires-clause-inside : goal.step-requires-clause-inside
step-requires-clause-inside c = λ u v out. let below = c.requires.inside u v out in omega (arith, c.loop-steps.invariant.room)
