use Rattle.pb_jobs.proofs.TaskLemmas.{as_block, as_whole}
use Rattle.pb_jobs.proofs.laws.a_task_of_a_plan_can_be_made.Goals as goal

pub returns-clause-alone : goal.returns-clause-alone
returns-clause-alone c = λ v p task start rules stops b h. as_block v p task start b rules stops h

pub returns-clause-together : goal.returns-clause-together
returns-clause-together c = λ v p task start rule stops b h. as_whole v p task start b rule stops h
