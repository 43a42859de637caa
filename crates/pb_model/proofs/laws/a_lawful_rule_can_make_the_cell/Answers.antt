use Rattle.pb_model.proofs.LawfulLemmas.{in_lawful, lawful_in, rising}
use Rattle.pb_model.proofs.laws.a_lawful_rule_can_make_the_cell.Goals as goal

pub returns-clause-members : goal.returns-clause-members
returns-clause-members c = λ t sizes d k. (lawful_in t sizes d k, in_lawful t sizes d k)

pub returns-clause-rising : goal.returns-clause-rising
returns-clause-rising c = rising
