use Rattle.pb_plan.proofs.BeforeLemmas.{read_before}
use Rattle.pb_plan.proofs.place_laws.what_is_read_is_made_before.Goals as goal

pub returns : goal.returns
returns c = λ config number t a sizes grain i valid. read_before config number t a sizes grain i valid
