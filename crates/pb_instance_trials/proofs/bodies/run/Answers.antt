use Rattle.std.proofs.Common.{refl}
use Rattle.pb_eval.specs.CanRun.{at_variables}
use Rattle.pb_instance_trials.proofs.bodies.run.Goals as goal

pub run_body-requires-clause-reads : goal.run_body-requires-clause-reads
run_body-requires-clause-reads c = c.if-not-can_be_run.ensures.reads refl (at_variables c.from.result c.from-2.result) c.args.table.now.outcomes.items
