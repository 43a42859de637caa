use Rattle.pb_tuner.proofs.SomeTuningLemmas.{some_tuning}
use Rattle.pb_tuner.proofs.laws.told_costs_have_a_tuning.Goals as goal

pub returns : goal.returns
returns c = some_tuning
