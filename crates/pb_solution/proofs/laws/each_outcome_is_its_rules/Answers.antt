use Rattle.pb_solution.specs.Solutions.{plan_of}
use Rattle.pb_solution.proofs.MayLemmas.{is_equation}
use Rattle.pb_solution.proofs.laws.each_outcome_is_its_rules.Goals as goal

pub returns : goal.returns
unfolding plan_of
returns c = λ config plans number t a sizes grain ins views tasks run cell made. is_equation config plans number t a sizes grain ins views tasks run cell made
