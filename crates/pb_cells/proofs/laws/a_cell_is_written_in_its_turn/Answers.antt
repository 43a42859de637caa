use Rattle.pb_cells.specs.Banks.{bank_of}
use Rattle.pb_cells.proofs.ShownLemmas.{idle-blank, next-blank, next-stored}
use Rattle.pb_cells.proofs.laws.a_cell_is_written_in_its_turn.Goals as goal

pub returns-clause-next : goal.returns-clause-next
returns-clause-next c = λ p s cell id holds seat. next-blank p holds.plan (bank_of p.graph s.words) s.views holds.story holds.is cell id seat

pub returns-clause-stored : goal.returns-clause-stored
returns-clause-stored c = λ p s cell id holds seat. next-stored p holds.plan (bank_of p.graph s.words) s.views holds.story holds.is cell id seat

pub returns-clause-idle : goal.returns-clause-idle
returns-clause-idle c = λ p s t cell holds below own idle never. idle-blank p holds.plan (bank_of p.graph s.words) s.views holds.story holds.is t cell below own idle never
