use Rattle.std.proofs.Common.{arith}
use Rattle.pb_runs.proofs.RunLemmas.{run_tally}
use Rattle.pb_runs.proofs.laws.a_run_is_counted_from_its_sides.Goals as goal

pub returns-clause-calls : goal.returns-clause-calls
returns-clause-calls c = λ p found config grain depth number ins h. let calls = (run_tally p found config grain depth number ins h).calls in omega (arith, calls)

pub returns-clause-side : goal.returns-clause-side
returns-clause-side c = λ p found config grain depth number ins h. (run_tally p found config grain depth number ins h).side

pub returns-clause-cells : goal.returns-clause-cells
returns-clause-cells c = λ p found config grain depth number ins h. (run_tally p found config grain depth number ins h).cells
