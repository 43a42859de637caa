use Rattle.std.proofs.Common.{◌≡◌, ◌∙◌, ◌<◌, ap, get_or, length, arith}
use Rattle.pb_taskgraph.specs.Graphs.{GraphValue, TaskValue}
use Rattle.pb_cells.proofs.FirstLemmas.{ready-all, ready-more, ready-same}
use Rattle.pb_cells.proofs.first.ready_list.Goals.{then-is_empty+in_ok-push, else-is_empty}
use Rattle.pb_cells.proofs.first.ready_list.Goals as goal

pub loop-task-preserved : goal.loop-task-preserved
loop-task-preserved g c =
    let p = g.W.Work.plan c.args.work.now in
    let k = c.loop-task.task in
    let task = c.index-tasks-task.result in
    let tasks : c.tasks-tasks.result.now ≡ p.graph.tasks = c.tasks-tasks.ensures.tasks ∙ ap (λ (h : GraphValue). h.tasks) c.graph.ensures.graph in
    let below : k < length p.graph.tasks = omega (arith, ap length tasks) in
    let is : task ≡ get_or p.graph.tasks k task = c.index-tasks-task.is ∙ ap (λ l. get_or l k task) tasks in
    let size : c.links.inside.before.len ≡ length task.before = omega (arith, c.links.inside.before.ok.0, ap (λ (t : TaskValue). length t.before) c.links.view_is) in
    elim c.if-is_empty.branch [
      | then-is_empty+in_ok-push w ↦
          rw w.ready-is (ready-more p k c.loop-task.ready.items task below is c.links.inside.before.len c.is_empty.result w.push.new.self.items size c.is_empty.ensures w.if-is_empty.true c.loop-task.invariant w.in_ok-push.ensures.items)
      | else-is_empty w ↦ rw w.ready-is (ready-same p k c.loop-task.ready.items task below is c.links.inside.before.len c.is_empty.result size c.is_empty.ensures w.if-is_empty.false c.loop-task.invariant)
    ]

pub returns : goal.returns
returns g c =
    let p = g.W.Work.plan c.args.work.now in
    let tasks : c.tasks-tasks.result.now ≡ p.graph.tasks = c.tasks-tasks.ensures.tasks ∙ ap (λ (h : GraphValue). h.tasks) c.graph.ensures.graph in
    ready-all p c.loop-task.task c.loop-task.ready.items (omega (arith, ap length tasks)) c.loop-task.invariant
