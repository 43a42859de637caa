use Rattle.pb_cells.specs.Banks.{bank_of}
use Rattle.pb_cells.proofs.ShownLemmas.{opened-is}
use Rattle.pb_cells.proofs.laws.each_task_is_opened_at_most_once.Goals as goal

pub returns-clause-one : goal.returns-clause-one
returns-clause-one c = λ p s t id holds seat. opened-is p holds.plan (bank_of p.graph s.words) s.views holds.story holds.is t id seat

pub returns-clause-once : goal.returns-clause-once
returns-clause-once c = λ p s holds id v at. (holds.is.fits id v at).opened.once
