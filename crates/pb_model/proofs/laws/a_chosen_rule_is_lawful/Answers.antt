use Rattle.pb_model.proofs.ChosenLemmas.{chosen_lawful}
use Rattle.pb_model.proofs.laws.a_chosen_rule_is_lawful.Goals as goal

pub returns : goal.returns
returns c = chosen_lawful
