use Rattle.pb_locked.proofs.BoardLemmas.{board-goes}
use Rattle.pb_locked.proofs.laws.a_board_goes_on.Goals as goal

pub returns : goal.returns
returns c = λ p s t plan board. board-goes p plan s board t
