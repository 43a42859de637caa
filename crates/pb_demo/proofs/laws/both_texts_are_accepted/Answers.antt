use Rattle.pb_demo.proofs.Found.{accepted}
use Rattle.pb_demo.proofs.laws.both_texts_are_accepted.Goals as goal

pub returns : goal.returns
returns c = accepted
