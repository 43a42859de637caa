use Rattle.pb_layers.proofs.TakenLemmas.{up-inside}
use Rattle.pb_layers.proofs.components.find_components.Goals as goal

pub finishing_order-requires-clause-inside : goal.finishing_order-requires-clause-inside
finishing_order-requires-clause-inside c = up-inside c.args.nodes c.args.graph.now.down.items c.args.graph.now.up.items _ c.requires c.deref.ensures.value

pub settle_along-requires-clause-settled : goal.settle_along-requires-clause-settled
settle_along-requires-clause-settled c = c.in_ok-components.ensures c.args.graph.now.down.items (λ u v out. (c.requires.inside u v out).0)
