use Rattle.pb_runs.proofs.RunLemmas.{run_before}
use Rattle.pb_runs.proofs.laws.what_a_step_reads_is_made_before.Goals as goal

pub returns : goal.returns
returns c = λ p found config grain depth number ins h k s e b there n cell. run_before p found config grain depth number ins h k s e b there n cell
