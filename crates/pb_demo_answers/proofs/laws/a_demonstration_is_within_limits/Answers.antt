use Rattle.pb_demo_answers.proofs.Found.{within}
use Rattle.pb_demo_answers.proofs.laws.a_demonstration_is_within_limits.Goals as goal

pub returns : goal.returns
returns c = within
