use Rattle.pb_model.proofs.CallLemmas.{settled}
use Rattle.pb_model.proofs.laws.a_call_is_what_its_rules_say.Goals as goal

pub returns : goal.returns
returns c = λ config plans number t sizes ins before room ranked. settled config plans number t sizes ins before ranked room
