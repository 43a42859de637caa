use Rattle.std.proofs.Common.{◌∙◌, ap, arith, get_or, length}
use Rattle.pb_taskgraph.specs.Graphs.{TaskValue}
use Rattle.pb_core.proofs.NewLemmas.{flags-more}
use Rattle.pb_core.proofs.first.first_links.Goals as goal

pub loop-task-preserved : goal.loop-task-preserved
loop-task-preserved c =
    let tasks = c.tasks-tasks.ensures.tasks in
    c.in_ok-push.ensures.items
    ∙ flags-more c.args.graph.now c.loop-task.task c.len.result c.index-tasks-task.result c.in_ok-list.list.items c.loop-task.flags.items (omega (arith, ap length tasks))
    (c.index-tasks-task.is ∙ ap (λ l. get_or l c.loop-task.task c.index-tasks-task.result) tasks)
    (omega (arith, c.len.ensures, c.links.inside.after.ok.0, ap (λ (t : TaskValue). length t.after) c.links.view_is)) (c.in_ok-list.ensures.items_if_clones_equal (λ y e. e)) c.loop-task.invariant
