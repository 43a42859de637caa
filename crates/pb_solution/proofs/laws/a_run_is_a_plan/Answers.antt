use Rattle.pb_solution.proofs.PlanLemmas.{is_plan}
use Rattle.pb_solution.proofs.laws.a_run_is_a_plan.Goals as goal

pub returns : goal.returns
returns c = λ config plans number t a sizes grain ins views tasks run. is_plan config plans number t a sizes grain ins views tasks run
