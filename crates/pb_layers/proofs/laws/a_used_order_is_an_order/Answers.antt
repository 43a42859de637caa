use Rattle.pb_layers.proofs.LawLemmas.{order-is}
use Rattle.pb_layers.proofs.laws.a_used_order_is_an_order.Goals as goal

pub returns : goal.returns
returns c = λ joined edges nodes a joined_in edges_in used. order-is joined edges nodes joined_in edges_in a used
