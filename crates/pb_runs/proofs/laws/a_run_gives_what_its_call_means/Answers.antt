use Rattle.pb_runs.proofs.RunLemmas.{run_placed}
use Rattle.pb_runs.proofs.laws.a_run_gives_what_its_call_means.Goals as goal

pub returns : goal.returns
returns c = λ p found config grain depth number ins h. run_placed p found config grain depth number ins h
