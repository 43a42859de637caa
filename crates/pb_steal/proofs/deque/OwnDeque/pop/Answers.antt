use Rattle.pb_steal.proofs.DequeLemmas.{takes}
use Rattle.pb_steal.proofs.deque.OwnDeque.pop.Goals as goal

pub pop_as-requires-clause-fifo : goal.pop_as-requires-clause-fifo
pop_as-requires-clause-fifo g c fifo = takes _ _ 1
