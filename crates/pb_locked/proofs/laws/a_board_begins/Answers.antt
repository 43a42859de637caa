use Rattle.pb_locked.proofs.BoardLemmas.{board-first}
use Rattle.pb_locked.proofs.laws.a_board_begins.Goals as goal

pub returns : goal.returns
returns c = λ p hands plan some few. board-first p hands plan some few
