use Rattle.std.proofs.Common.{ap, length, arith}
use Rattle.pb_layers.proofs.components.name.Goals as goal

pub height-height-requires-clause-least : goal.height-height-requires-clause-least
height-height-requires-clause-least c = λ u v out. let below = c.requires.inside u v out in omega (arith, ap length c.deref.ensures.value, c.fill.ensures.room, c.requires.least)

pub height-height-requires-clause-depth : goal.height-height-requires-clause-depth
height-height-requires-clause-depth c = λ u v out. let below = c.requires.inside u v out in omega (arith, ap length c.deref-2.ensures.value, c.requires.depth)
