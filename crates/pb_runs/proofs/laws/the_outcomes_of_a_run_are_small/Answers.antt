use Rattle.pb_runs.proofs.UseLemmas.{outcomes_small}
use Rattle.pb_runs.proofs.laws.the_outcomes_of_a_run_are_small.Goals as goal

pub returns : goal.returns
returns c = λ p found config grain depth number ins h few small. outcomes_small p found config grain depth number ins h few small
