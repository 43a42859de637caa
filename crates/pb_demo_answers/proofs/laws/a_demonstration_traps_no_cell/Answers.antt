use Rattle.pb_demo_answers.proofs.Found.{untrapped}
use Rattle.pb_demo_answers.proofs.laws.a_demonstration_traps_no_cell.Goals as goal

pub returns : goal.returns
returns c = untrapped
