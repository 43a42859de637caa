use Rattle.pb_model.proofs.FitLemmas.{gives_fit}
use Rattle.pb_model.proofs.laws.a_rule_gives_numbers_of_64_bits.Goals as goal

pub returns : goal.returns
returns c = λ matrices sizes cell transform rule r seen few x y reads outs fit. gives_fit matrices sizes cell transform rule r seen few x y reads outs fit
