use Rattle.pb_steal.proofs.DequeLemmas.{begins}
use Rattle.pb_steal.proofs.deque.OwnDeque.new.Goals as goal

pub fifo_as-requires : goal.fifo_as-requires
fifo_as-requires g c = begins
