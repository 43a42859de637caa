use Rattle.pb_check.proofs.LawfulLemmas.{lawful_at, one_at}
use Rattle.pb_check.proofs.laws.the_segment_of_a_cell_has_its_lawful_rules.Goals as goal

pub returns-clause-one : goal.returns-clause-one
returns-clause-one c = one_at

pub returns-clause-lawful : goal.returns-clause-lawful
returns-clause-lawful c = lawful_at
