use Rattle.pb_steal.proofs.DequeLemmas.{takes}
use Rattle.pb_steal.proofs.source.Source.steal.Goals as goal

pub steal_as-requires-clause-takes : goal.steal_as-requires-clause-takes
steal_as-requires-clause-takes g c = takes _ _ 1
