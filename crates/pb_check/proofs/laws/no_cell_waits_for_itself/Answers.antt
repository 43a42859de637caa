use Rattle.pb_check.proofs.WaitLemmas.{below_above, chosen_falls, not_below}
use Rattle.pb_check.proofs.laws.no_cell_waits_for_itself.Goals as goal

pub returns-clause-falls : goal.returns-clause-falls
returns-clause-falls c = chosen_falls

pub returns-clause-irreflexive : goal.returns-clause-irreflexive
returns-clause-irreflexive c = not_below

pub returns-clause-transitive : goal.returns-clause-transitive
returns-clause-transitive c = below_above
