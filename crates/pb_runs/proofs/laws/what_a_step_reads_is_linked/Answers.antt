use Rattle.pb_runs.proofs.LinkLemmas.{reads_linked}
use Rattle.pb_runs.proofs.laws.what_a_step_reads_is_linked.Goals as goal

pub returns : goal.returns
returns c = λ p found config grain depth number ins h k s e b there n cell. reads_linked p found config grain depth number ins h k s e b there n cell
