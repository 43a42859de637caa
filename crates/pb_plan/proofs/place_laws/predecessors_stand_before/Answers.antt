use Rattle.pb_plan.proofs.BeforeLemmas.{stands_before}
use Rattle.pb_plan.proofs.place_laws.predecessors_stand_before.Goals as goal

pub returns : goal.returns
returns c = λ config number t a sizes grain i valid. stands_before config number t a sizes grain i valid
