use Rattle.pb_frame.proofs.PartLemmas.{one_part, some_part}
use Rattle.pb_frame.proofs.laws.each_cell_lies_in_one_part.Goals as goal

pub returns-clause-some : goal.returns-clause-some
returns-clause-some c = λ config number t a sizes i. some_part config number t a sizes i

pub returns-clause-one : goal.returns-clause-one
returns-clause-one c = λ config number t a sizes i. one_part config number t a sizes i
