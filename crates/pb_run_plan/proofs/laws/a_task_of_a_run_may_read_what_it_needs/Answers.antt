use Rattle.std.proofs.Common.{◌≡◌, ◌∙◌, refl, sym, Some, None}
use Rattle.pb_runs.proofs.UseLemmas.{copied_use, job_use}
use Rattle.pb_runs.specs.Right.{source_number}
use Rattle.pb_runs.specs.Steps.{number_at}
use Rattle.pb_run_plan.proofs.PlanLemmas.{may_read}
use Rattle.pb_run_plan.proofs.laws.a_task_of_a_run_may_read_what_it_needs.Goals as goal

pub returns-clause-one : goal.returns-clause-one
returns-clause-one c = λ p found config grain depth number ins tasks h are k i job e none n s at d reading.
    may_read p found config grain depth number ins h tasks are k n (number_at i d) (job_use p found config grain depth number ins h k i job e n s at d reading n (λ block. refl))

pub returns-clause-all : goal.returns-clause-all
returns-clause-all c = λ p found config grain depth number ins tasks h are k i job rule e some n s at d reading.
    may_read p found config grain depth number ins h tasks are k 0 (number_at i d) (job_use p found config grain depth number ins h k i job e n s at d reading 0 (λ block. absurd (let wrong : Some rule ≡ None = sym some ∙ block in cc)))

pub returns-clause-copied : goal.returns-clause-copied
returns-clause-copied c = λ p found config grain depth number ins tasks h are k i copied e s there.
    may_read p found config grain depth number ins h tasks are k 0 (source_number copied s) (copied_use p found config grain depth number ins h k i copied e s there)
