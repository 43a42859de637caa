use Rattle.pb_steal.proofs.DequeLemmas.{pushes}
use Rattle.pb_steal.proofs.deque.OwnDeque.push.Goals as goal

pub push_as-requires-clause-pushes : goal.push_as-requires-clause-pushes
push_as-requires-clause-pushes g c = pushes _ _ _ c.self.invariant.port
