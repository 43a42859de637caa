use Rattle.pb_calls.proofs.SameLemmas.{one_choice, one_lawful}
use Rattle.pb_calls.proofs.laws.the_cells_of_a_segment_have_one_choice.Goals as goal

pub returns-clause-lawful : goal.returns-clause-lawful
returns-clause-lawful c = λ p number t a sizes well sound at found. one_lawful p number t a sizes well sound at found

pub returns-clause-chosen : goal.returns-clause-chosen
returns-clause-chosen c = λ p number t a sizes config well sound at found. one_choice p number t a sizes well sound at found config
