use Rattle.std.proofs.Common.{◌≡◌, ◌∙◌, ap, get_or, List, subst, sym}
use Rattle.pb_taskgraph.specs.Graphs.{EachOnce, GraphValue, TaskValue}
use Rattle.pb_taskgraph.proofs.GraphLemmas.{after-at}
use Rattle.pb_steal.proofs.runner.successors.Goals as goal

pub returns-clause-nexts : goal.returns-clause-nexts
returns-clause-nexts g c =
    let p = g.W.Work.plan c.args.work.now in
    let tasks : c.tasks.result.now ≡ p.graph.tasks = c.tasks.ensures.tasks ∙ ap (λ (h : GraphValue). h.tasks) c.graph.ensures.graph in
    c.deref.ensures.value ∙ ap (λ (v : TaskValue). v.after) c.links.view_is
    ∙ sym (after-at p.graph c.args.task c.index-tasks-task.result c.requires (c.index-tasks-task.is ∙ ap (λ (l : List TaskValue). get_or l c.args.task c.index-tasks-task.result) tasks))

pub returns-clause-once : goal.returns-clause-once
returns-clause-once g c = subst EachOnce (sym (returns-clause-nexts g c)) (c.graph.ensures.plan.graph.linked.after_once c.args.task)
