use Rattle.pb_frame.proofs.PartLemmas.{held_chosen, held_made}
use Rattle.pb_frame.proofs.laws.a_part_has_the_rule_of_its_cells.Goals as goal

pub returns-clause-made : goal.returns-clause-made
returns-clause-made c = λ config number t a sizes i. held_made config number t a sizes i

pub returns-clause-chosen : goal.returns-clause-chosen
returns-clause-chosen c = λ config number t a sizes i. held_chosen config number t a sizes i
