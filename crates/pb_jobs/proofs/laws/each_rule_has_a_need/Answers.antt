use Rattle.pb_jobs.proofs.NeedLemmas.{cell_need, whole_need}
use Rattle.pb_jobs.proofs.laws.each_rule_has_a_need.Goals as goal

pub returns-clause-alone : goal.returns-clause-alone
returns-clause-alone c = λ v k rule is there cell. cell_need v is k rule there cell

pub returns-clause-together : goal.returns-clause-together
returns-clause-together c = λ v k is can. whole_need v is k can
