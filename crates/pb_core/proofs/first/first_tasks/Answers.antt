use Rattle.std.proofs.Common.{◌∙◌, ap, arith, length}
use Rattle.pb_taskgraph.specs.Graphs.{TaskValue}
use Rattle.pb_core.proofs.NewLemmas.{task-more}
use Rattle.std.proofs.Common.{get_or}
use Rattle.pb_core.proofs.first.first_tasks.Goals as goal

pub loop-task-preserved : goal.loop-task-preserved
loop-task-preserved c =
    let tasks = c.tasks-tasks.ensures.tasks in
    c.in_ok-push.ensures.items
    ∙ task-more c.args.graph.now c.args.hands c.loop-task.task c.index-tasks-task.result c.deref.result.now c.progress_at.result c.loop-task.first.items (omega (arith, ap length tasks))
    (c.index-tasks-task.is ∙ ap (λ l. get_or l c.loop-task.task c.index-tasks-task.result) tasks) (c.deref.ensures.value ∙ ap (λ (t : TaskValue). t.before) c.links.view_is) c.progress_at.ensures c.loop-task.invariant
