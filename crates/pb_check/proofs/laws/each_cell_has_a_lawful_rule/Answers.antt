use Rattle.pb_check.proofs.CoverLemmas.{has_lawful}
use Rattle.pb_check.proofs.laws.each_cell_has_a_lawful_rule.Goals as goal

pub returns : goal.returns
returns c = has_lawful
