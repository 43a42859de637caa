use Rattle.pb_plan.proofs.ReadableLemmas.{are_jobs, have_nodes}
use Rattle.pb_plan.proofs.place_laws.jobs_have_places.Goals as goal

pub returns-clause-jobs : goal.returns-clause-jobs
returns-clause-jobs c = λ config number t a sizes grain i valid short. are_jobs config number t a sizes grain i valid short

pub returns-clause-nodes : goal.returns-clause-nodes
returns-clause-nodes c = λ config number t a sizes grain i valid short. have_nodes config number t a sizes grain i valid short
