use Rattle.pb_locked.proofs.BoardLemmas.{complete-board, complete-enabled}
use Rattle.pb_locked.proofs.laws.a_begun_task_can_be_completed.Goals as goal

pub returns-clause-enabled : goal.returns-clause-enabled
returns-clause-enabled c = λ p s hand t plan board begun. complete-enabled p plan s board hand t begun

pub returns-clause-board : goal.returns-clause-board
returns-clause-board c = λ p s hand t plan board begun. complete-board p plan s board hand t begun
