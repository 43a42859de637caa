use Rattle.pb_cells.specs.Banks.{bank_of}
use Rattle.pb_cells.proofs.ShownLemmas.{turn-is, turn-there}
use Rattle.pb_cells.proofs.laws.each_turn_is_in_one_view.Goals as goal

pub returns-clause-one : goal.returns-clause-one
returns-clause-one c = λ p s t holds below waits never. turn-there p holds.plan (bank_of p.graph s.words) s.views holds.story holds.is t below waits never

pub returns-clause-no_other : goal.returns-clause-no_other
returns-clause-no_other c = λ p s t id holds seat. turn-is p holds.plan (bank_of p.graph s.words) s.views holds.story holds.is t id seat
