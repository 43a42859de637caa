use Rattle.std.proofs.Common.{rules}
use Rattle.pb_locked.proofs.JobLemmas.{others-below}
use Rattle.pb_locked.proofs.ports.run_beside.Goals as goal

pub run_task-requires-clause-others : goal.run_task-requires-clause-others
run_task-requires-clause-others g c κs within cell others = ((others-below g.N.NamesWork.plan c.graph-graph.ensures.plan c.args.task cell others, (search rules, search rules)), λ v e. e)
