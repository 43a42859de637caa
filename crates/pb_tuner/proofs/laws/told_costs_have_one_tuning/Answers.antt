use Rattle.pb_tuner.proofs.OneTuningLemmas.{one_tuning}
use Rattle.pb_tuner.proofs.laws.told_costs_have_one_tuning.Goals as goal

pub returns : goal.returns
returns c = one_tuning
