use Rattle.pb_taskgraph.proofs.OrderLemmas.{by-number}
use Rattle.pb_taskgraph.proofs.laws.tasks_by_number_are_in_lawful_order.Goals as goal

pub returns : goal.returns
returns c = by-number
