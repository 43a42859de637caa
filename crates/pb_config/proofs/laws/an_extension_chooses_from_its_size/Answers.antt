use Rattle.pb_config.proofs.ChosenLemmas.{chosen_from}
use Rattle.pb_config.proofs.laws.an_extension_chooses_from_its_size.Goals as goal

pub returns : goal.returns
returns c = chosen_from
