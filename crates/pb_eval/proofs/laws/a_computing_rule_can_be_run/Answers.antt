use Rattle.pb_eval.proofs.RegionLemmas.{runnable}
use Rattle.pb_eval.proofs.laws.a_computing_rule_can_be_run.Goals as goal

pub returns : goal.returns
returns c = λ n inputs transforms matrices r well plain. runnable n inputs transforms matrices r well plain
