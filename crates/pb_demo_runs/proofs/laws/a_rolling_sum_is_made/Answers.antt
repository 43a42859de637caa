use Rattle.pb_demo_runs.proofs.Found.{none_trapped, sum_is}
use Rattle.pb_demo_runs.proofs.laws.a_rolling_sum_is_made.Goals as goal

pub returns-clause-sums : goal.returns-clause-sums
returns-clause-sums c = sum_is

pub returns-clause-untrapped : goal.returns-clause-untrapped
returns-clause-untrapped c = λ p config depth numbers cells a valid small. none_trapped p config depth numbers a valid small cells
