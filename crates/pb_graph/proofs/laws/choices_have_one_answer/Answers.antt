use Rattle.pb_graph.proofs.OrderLemmas.{has_answer, one_component, one_layering}
use Rattle.pb_graph.proofs.laws.choices_have_one_answer.Goals as goal

pub returns-clause-some : goal.returns-clause-some
returns-clause-some c = has_answer

pub returns-clause-one_layering : goal.returns-clause-one_layering
returns-clause-one_layering c = one_layering

pub returns-clause-one_refusal : goal.returns-clause-one_refusal
returns-clause-one_refusal c = one_component
