use Rattle.pb_run_work.proofs.SeenLemmas.{can_be_made}
use Rattle.pb_run_work.proofs.laws.a_task_of_a_run_that_computes_can_be_run.Goals as goal

pub returns : goal.returns
returns c = λ a u inputs linked tasks are k start b m j at v at_v job at_job found at_found seen is. can_be_made a u inputs linked m v at_v seen is tasks are k j at job at_job found at_found start b
