use Rattle.pb_layers.proofs.ExistLemmas.{answered}
use Rattle.pb_layers.proofs.LawLemmas.{one-order, one-refusal, order-from}
use Rattle.pb_layers.proofs.laws.nodes_have_one_answer.Goals as goal

pub returns-clause-some : goal.returns-clause-some
returns-clause-some c = answered

pub returns-clause-one_order : goal.returns-clause-one_order
returns-clause-one_order c = λ joined edges nodes a b joined_in edges_in p q. one-order joined edges nodes joined_in edges_in a b p q

pub returns-clause-one_refusal : goal.returns-clause-one_refusal
returns-clause-one_refusal c = one-refusal

pub returns-clause-not_both : goal.returns-clause-not_both
returns-clause-not_both c = λ joined edges nodes a members joined_in edges_in used refused. refused.no_order (order-from joined edges nodes joined_in edges_in a used)
