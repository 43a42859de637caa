use Rattle.pb_program.specs.Trees.{bare_prog}
use Rattle.pb_eval.proofs.HeldLemmas.{of_rule}
use Rattle.pb_instance_trials.proofs.bodies.can_be_run.Goals as goal

pub returns-clause-reads : goal.returns-clause-reads
returns-clause-reads c = λ t k outcomes. of_rule (bare_prog c.args.p.now) 0 0 _ _ _ c.in-Some.ensures c.in-Some-first_rule.ensures (c.suits.ensures.reads t k outcomes)
