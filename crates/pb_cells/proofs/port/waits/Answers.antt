use Rattle.std.proofs.Common.{◌≡◌, ◌∙◌, ap, get_or, length, arith}
use Rattle.pb_taskgraph.specs.Graphs.{GraphValue, TaskValue}
use Rattle.pb_taskgraph.proofs.GraphLemmas.{before-at}
use Rattle.pb_cells.proofs.FirstLemmas.{none-before}
use Rattle.pb_cells.proofs.port.waits.Goals as goal

pub returns : goal.returns
returns g c =
    let p = g.W.Work.plan c.args.work.now in
    let task = c.index-tasks-task.result in
    let tasks : c.tasks.result.now ≡ p.graph.tasks = c.tasks.ensures.tasks ∙ ap (λ (h : GraphValue). h.tasks) c.graph.ensures.graph in
    let is : task ≡ get_or p.graph.tasks c.args.task task = c.index-tasks-task.is ∙ ap (λ l. get_or l c.args.task task) tasks in
    let size : c.links.inside.before.len ≡ length task.before = omega (arith, c.links.inside.before.ok.0, ap (λ (t : TaskValue). length t.before) c.links.view_is) in
    λ waits. before-at p.graph c.args.task task c.requires is ∙ none-before c.is_empty.result task.before c.links.inside.before.len size c.is_empty.ensures waits
