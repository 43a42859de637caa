use Rattle.pb_cells.proofs.OpeningLemmas.{first-holds}
use Rattle.pb_cells.proofs.laws.the_first_words_meet_the_rule.Goals as goal

pub returns : goal.returns
returns c = λ p words is first. first-holds p is words first
