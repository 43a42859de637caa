use Rattle.pb_region.proofs.BoxLemmas.{cell_applies, cell_inside}
use Rattle.pb_region.proofs.laws.a_box_is_its_conditions.Goals as goal

pub returns-clause-inside : goal.returns-clause-inside
returns-clause-inside c = cell_inside

pub returns-clause-applies : goal.returns-clause-applies
returns-clause-applies c = cell_applies
