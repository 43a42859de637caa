use Rattle.pb_cells.specs.Banks.{bank_of}
use Rattle.pb_cells.proofs.ShownLemmas.{all-finished, are-filed, filed-stored, number-stored}
use Rattle.pb_cells.proofs.laws.the_filed_count_tells_whose_numbers_are_stored.Goals as goal

pub returns-clause-stored : goal.returns-clause-stored
returns-clause-stored c = λ p s t n holds seat. number-stored p holds.plan (bank_of p.graph s.words) s.views holds.story holds.is t n seat

pub returns-clause-filed : goal.returns-clause-filed
returns-clause-filed c = λ p s holds. (holds.story.filed, are-filed p holds.plan (bank_of p.graph s.words) s.views holds.story holds.is, holds.is.tells.numbers.count_is)

pub returns-clause-kept : goal.returns-clause-kept
returns-clause-kept c = λ p s t holds says. filed-stored p holds.plan (bank_of p.graph s.words) s.views holds.story holds.is t says

pub returns-clause-all : goal.returns-clause-all
returns-clause-all c = λ p s t holds all below. all-finished p holds.plan (bank_of p.graph s.words) s.views holds.story holds.is all t below

pub returns-clause-seen : goal.returns-clause-seen
returns-clause-seen c = λ p s holds id v at. (holds.is.fits id v at).seen
