use Rattle.pb_locked.proofs.BoardLemmas.{take}
use Rattle.pb_locked.proofs.laws.a_ready_task_can_be_taken.Goals as goal

pub returns-clause-enabled : goal.returns-clause-enabled
returns-clause-enabled c = λ p s hand t plan board ready. (take p plan s board hand t ready).enabled

pub returns-clause-board : goal.returns-clause-board
returns-clause-board c = λ p s hand t plan board ready. (take p plan s board hand t ready).board

pub returns-clause-begun : goal.returns-clause-begun
returns-clause-begun c = λ p s hand t plan board ready. (take p plan s board hand t ready).begun
