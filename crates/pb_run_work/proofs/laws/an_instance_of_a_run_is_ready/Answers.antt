use Rattle.pb_run_work.proofs.SeenLemmas.{is_ready}
use Rattle.pb_run_work.proofs.laws.an_instance_of_a_run_is_ready.Goals as goal

pub returns : goal.returns
returns c = λ a u inputs linked m v at_v seen is windows. is_ready a u inputs linked m v at_v seen is windows
