use Rattle.std.proofs.Common.{◌≡◌, ◌∙◌, refl, sym, Some, None}
use Rattle.pb_runs.proofs.UseLemmas.{copied_use, job_use}
use Rattle.pb_runs.proofs.laws.a_step_may_read_what_its_cells_read.Goals as goal

pub returns-clause-one : goal.returns-clause-one
returns-clause-one c = λ p found config grain depth number ins h k i job e none n s at d reading. job_use p found config grain depth number ins h k i job e n s at d reading n (λ block. refl)

pub returns-clause-all : goal.returns-clause-all
returns-clause-all c = λ p found config grain depth number ins h k i job rule e some n s at d reading.
    job_use p found config grain depth number ins h k i job e n s at d reading 0 (λ block. absurd (let wrong : Some rule ≡ None = sym some ∙ block in cc))

pub returns-clause-copied : goal.returns-clause-copied
returns-clause-copied c = λ p found config grain depth number ins h k i copied e s there. copied_use p found config grain depth number ins h k i copied e s there
