use Rattle.pb_runs.proofs.LinkLemmas.{links_go_back}
use Rattle.pb_runs.proofs.laws.a_step_waits_for_earlier_ones.Goals as goal

pub returns : goal.returns
returns c = λ p found config grain depth number ins h k u waits. links_go_back p found config grain depth number ins h k u waits
