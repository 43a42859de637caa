use Rattle.std.proofs.Common.{rules}
use Rattle.pb_core.specs.Cores.{state_of}
use Rattle.pb_locked.proofs.BoardLemmas.{begun-task}
use Rattle.pb_locked.proofs.JobLemmas.{others-below, others-right, others-written}
use Rattle.pb_locked.proofs.ports.run_alone.Goals as goal

pub run_task-requires-clause-task : goal.run_task-requires-clause-task
run_task-requires-clause-task g c κs within = let p = g.N.NamesWork.plan in begun-task p c.graph-graph.ensures.plan (state_of p c.args.board.now) c.done-done.ensures.board c.args.hand c.args.task c.requires

pub run_task-requires-clause-others : goal.run_task-requires-clause-others
run_task-requires-clause-others g c κs within cell others =
    let p = g.N.NamesWork.plan in (
      ((others-below p c.graph-graph.ensures.plan c.args.task cell others, others-written p c.graph-graph.ensures.plan (state_of p c.args.board.now) c.done-done.ensures.board c.args.hand c.args.task c.requires cell others), (search rules, search rules)),
      λ v e. others-right p c.graph-graph.ensures.plan (state_of p c.args.board.now) c.done-done.ensures.board c.args.hand c.args.task c.requires cell v e,
    )
