use Rattle.pb_calls.proofs.SettledLemmas.{call_settled}
use Rattle.pb_calls.proofs.laws.a_call_is_settled.Goals as goal

pub returns : goal.returns
returns c = λ p number t a sizes config plans ins well sound at found valid range given. call_settled p number t a sizes config plans ins well sound at found valid range given
