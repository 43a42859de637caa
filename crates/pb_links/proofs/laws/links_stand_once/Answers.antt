use Rattle.std.proofs.Common.{length}
use Rattle.pb_links.specs.Links.{precedes, predecessors, successors}
use Rattle.pb_links.proofs.RisingLemmas.{rising-once, rising-picked}
use Rattle.pb_links.proofs.laws.links_stand_once.Goals as goal

pub returns-clause-before : goal.returns-clause-before
unfolding predecessors
returns-clause-before c tasks t = rising-once (predecessors tasks t) (rising-picked (λ u. precedes tasks u t) (length tasks))

pub returns-clause-after : goal.returns-clause-after
unfolding successors
returns-clause-after c tasks u = rising-once (successors tasks u) (rising-picked (λ t. precedes tasks u t) (length tasks))
