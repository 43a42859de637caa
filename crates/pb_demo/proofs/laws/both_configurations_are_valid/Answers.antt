use Rattle.pb_demo.proofs.Found.{valid}
use Rattle.pb_demo.proofs.laws.both_configurations_are_valid.Goals as goal

pub returns : goal.returns
returns c = valid
