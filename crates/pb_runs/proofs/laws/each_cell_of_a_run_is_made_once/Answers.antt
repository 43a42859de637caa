use Rattle.pb_plan.proofs.OnceLemmas.{once_each}
use Rattle.pb_runs.proofs.RunLemmas.{run, run_each, run_once, run_only}
use Rattle.pb_runs.specs.Steps.{cells_in}
use Rattle.pb_runs.proofs.laws.each_cell_of_a_run_is_made_once.Goals as goal

pub returns-clause-once : goal.returns-clause-once
returns-clause-once c = λ p found config grain depth number ins h. once_each (cells_in (run p found config grain depth number ins h).steps) (run_once p found config grain depth number ins h)

pub returns-clause-each : goal.returns-clause-each
returns-clause-each c = λ p found config grain depth number ins h k. (run_only p found config grain depth number ins h k, λ r. run_each p found config grain depth number ins h k r.0 r.1)
