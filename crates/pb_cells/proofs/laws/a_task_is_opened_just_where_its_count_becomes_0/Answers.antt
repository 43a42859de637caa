use Rattle.pb_cells.specs.Banks.{bank_of}
use Rattle.pb_cells.proofs.StepLemmas.{count-step, kept-opened, opened-before, opened-there}
use Rattle.pb_cells.proofs.laws.a_task_is_opened_just_where_its_count_becomes_0.Goals as goal

pub returns-clause-step : goal.returns-clause-step
returns-clause-step c = count-step

pub returns-clause-kept : goal.returns-clause-kept
returns-clause-kept c = λ p s later t id v w holds then_ others at there on h none_left.
    kept-opened p holds.plan (bank_of p.graph s.words) (bank_of p.graph later.words) s.views later.views holds.story then_.story holds.is then_.is id t v w others at there on h none_left

pub returns-clause-left : goal.returns-clause-left
returns-clause-left c = λ p s holds id v at. (holds.is.fits id v at).left

pub returns-clause-one : goal.returns-clause-one
returns-clause-one c = λ p s t holds below waits some_before. opened-there p holds.plan (bank_of p.graph s.words) s.views holds.story holds.is t below waits some_before

pub returns-clause-by : goal.returns-clause-by
returns-clause-by c = λ p s t id holds seat. opened-before p holds.plan (bank_of p.graph s.words) s.views holds.story holds.is t id seat
