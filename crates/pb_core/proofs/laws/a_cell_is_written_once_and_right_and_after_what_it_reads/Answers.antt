use Rattle.pb_core.proofs.OnceLemmas.{after, end-sound, never, once, whole}
use Rattle.pb_core.proofs.laws.a_cell_is_written_once_and_right_and_after_what_it_reads.Goals as goal

pub returns-clause-once : goal.returns-clause-once
returns-clause-once c = λ p hands events cell plan enabled. once p plan hands events enabled cell

pub returns-clause-input : goal.returns-clause-input
returns-clause-input c = λ p hands events cell plan enabled. never p plan hands events enabled cell

pub returns-clause-right : goal.returns-clause-right
returns-clause-right c = λ p hands events cell v plan enabled. (end-sound p plan hands events enabled).written.right cell v

pub returns-clause-after : goal.returns-clause-after
returns-clause-after c = λ p hands early late hand cell t u d plan. after p plan hands early late hand cell t u d

pub returns-clause-all : goal.returns-clause-all
returns-clause-all c = λ p hands events cell plan enabled finished. whole p plan hands events enabled finished cell
