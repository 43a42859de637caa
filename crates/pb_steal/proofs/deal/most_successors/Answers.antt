use Rattle.std.proofs.Common.{◌∙◌, ap, arith, length}
use Rattle.pb_taskgraph.specs.Graphs.{GraphValue}
use Rattle.pb_taskgraph.specs.Plans.{Plan}
use Rattle.pb_steal.proofs.DealLemmas.{most-all}
use Rattle.pb_steal.proofs.deal.most_successors.Goals as goal

pub returns : goal.returns
returns g c =
    let p : Plan = g.W.Work.plan c.args.work.now in
    let tasks = ap length (c.tasks-task-end.ensures.tasks ∙ ap (λ (h : GraphValue). h.tasks) c.graph.ensures.graph) in
    most-all p.graph c.loop-task.task c.loop-task.most (omega (arith, tasks, c.loop-task-test.false)) c.loop-task.invariant
