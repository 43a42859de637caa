use Rattle.pb_entry.proofs.LawLemmas.{not_both, one_list, one_refusal}
use Rattle.pb_entry.proofs.SomeLemmas.{some_answer}
use Rattle.pb_entry.proofs.laws.inputs_have_one_answer.Goals as goal

pub returns-clause-some : goal.returns-clause-some
returns-clause-some c t inputs e count = some_answer t inputs e count

pub returns-clause-one_list : goal.returns-clause-one_list
returns-clause-one_list c t inputs sizes others a b = one_list t inputs sizes others a b

pub returns-clause-one_refusal : goal.returns-clause-one_refusal
returns-clause-one_refusal c t inputs e f a b = one_refusal t inputs e f a b

pub returns-clause-not_both : goal.returns-clause-not_both
returns-clause-not_both c t inputs sizes e a b = not_both t inputs sizes e a b
