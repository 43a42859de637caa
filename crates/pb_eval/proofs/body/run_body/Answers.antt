use Rattle.pb_program.specs.Trees.{bare_prog}
use Rattle.pb_eval.proofs.HeldLemmas.{of_rule}
use Rattle.pb_eval.proofs.body.run_body.Goals as goal

pub run_rule-requires-clause-runnable : goal.run_rule-requires-clause-runnable
run_rule-requires-clause-runnable g c = c.requires.runnable _ _ c.in-Some.ensures.found c.in-Some-rule_at.ensures.found

pub run_rule-requires-clause-reads : goal.run_rule-requires-clause-reads
run_rule-requires-clause-reads g c = c.requires.reads _ _ c.in-Some.ensures.found c.in-Some-rule_at.ensures.found

pub run_rule-requires-clause-locals : goal.run_rule-requires-clause-locals
run_rule-requires-clause-locals g c = c.requires.locals _ _ c.in-Some.ensures.found c.in-Some-rule_at.ensures.found

pub run_rule-requires-clause-numbers : goal.run_rule-requires-clause-numbers
run_rule-requires-clause-numbers g c = c.requires.numbers _ _ c.in-Some.ensures.found c.in-Some-rule_at.ensures.found

pub returns-clause-found : goal.returns-clause-found
returns-clause-found g c = of_rule (bare_prog c.args.p.now) c.args.t c.args.r _ _ _ c.in-Some.ensures.found c.in-Some-rule_at.ensures.found c.run_rule.ensures.found
