use Rattle.pb_run_work.proofs.LinkedLemmas.{trap_are_numbers, trap_is_left}
use Rattle.pb_run_work.proofs.laws.a_task_of_a_run_that_traps_can_be_run.Goals as goal

pub returns-clause-left : goal.returns-clause-left
returns-clause-left c = λ a u inputs linked tasks are k start b f at. trap_is_left a u inputs linked tasks are k start b f at

pub returns-clause-numbers : goal.returns-clause-numbers
returns-clause-numbers c = λ a u inputs linked tasks are k start b f at. trap_are_numbers a u inputs linked tasks are k start b f at
