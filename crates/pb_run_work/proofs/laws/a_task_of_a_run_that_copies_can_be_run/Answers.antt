use Rattle.pb_run_work.proofs.LinkedLemmas.{copy_is_ready}
use Rattle.pb_run_work.proofs.laws.a_task_of_a_run_that_copies_can_be_run.Goals as goal

pub returns : goal.returns
returns c = λ a u inputs linked tasks are k start b x at v at_v t at_t found at_found views laid. copy_is_ready a u inputs linked tasks are k start b x at v at_v t at_t found at_found views laid
