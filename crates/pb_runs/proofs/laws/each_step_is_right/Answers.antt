use Rattle.pb_runs.proofs.RunLemmas.{run_right}
use Rattle.pb_runs.proofs.laws.each_step_is_right.Goals as goal

pub returns : goal.returns
returns c = λ p found config grain depth number ins h k s e. run_right p found config grain depth number ins h k s e
