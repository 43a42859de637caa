use Rattle.pb_run_plan.proofs.PlanLemmas.{is_plan}
use Rattle.pb_run_plan.proofs.laws.a_run_of_calls_is_a_plan.Goals as goal

pub returns : goal.returns
returns c = λ p found config grain depth number ins tasks h small limits are. is_plan p found config grain depth number ins h tasks are small limits
