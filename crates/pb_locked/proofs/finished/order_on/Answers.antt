use Rattle.std.proofs.Common.{◌∙◌, ap, arith, length, length-set, sym, List}
use Rattle.pb_taskgraph.specs.Graphs.{GraphValue, TaskValue}
use Rattle.pb_core.specs.Cores.{state_of}
use Rattle.pb_locked.proofs.FinishedLemmas.{number-below, number-more, numbers-lawful}
use Rattle.pb_locked.proofs.finished.order_on.Goals as goal

pub index_mut-requires : goal.index_mut-requires
index_mut-requires g c =
    let p = g.N.NamesWork.plan in
    let tasks = ap (λ (l : List TaskValue). length l) (c.tasks-tasks.ensures.tasks ∙ ap (λ (h : GraphValue). h.tasks) c.graph.ensures.graph) in
    let below = number-below p c.graph.ensures.plan (state_of p c.args.board.now) c.done-done.ensures.board c.requires c.loop-task.task c.unwrap-number.result (sym c.unwrap-number.ensures ∙ c.number.ensures) in
    omega (arith, below, tasks, c.loop-task.invariant.size, c.loop-task.order.ok.0)

pub loop-task-preserved : goal.loop-task-preserved
loop-task-preserved g c =
    let p = g.N.NamesWork.plan in
    let tasks = ap (λ (l : List TaskValue). length l) (c.tasks-tasks.ensures.tasks ∙ ap (λ (h : GraphValue). h.tasks) c.graph.ensures.graph) in
    record {
      size = length-set c.loop-task.order.items c.unwrap-number.result c.loop-task.task ∙ c.loop-task.invariant.size;
      placed = number-more p c.graph.ensures.plan (state_of p c.args.board.now) c.done-done.ensures.board c.requires c.loop-task.order.items c.loop-task.task c.unwrap-number.result (c.loop-task.invariant.size ∙ tasks)
          (sym c.unwrap-number.ensures ∙ c.number.ensures) c.loop-task.invariant.placed;
    }

pub returns : goal.returns
returns g c =
    let p = g.N.NamesWork.plan in
    let tasks = ap (λ (l : List TaskValue). length l) (c.tasks-tasks.ensures.tasks ∙ ap (λ (h : GraphValue). h.tasks) c.graph.ensures.graph) in
    numbers-lawful p c.graph.ensures.plan (state_of p c.args.board.now) c.done-done.ensures.board c.requires c.loop-task.order.items (c.loop-task.invariant.size ∙ tasks)
    (λ u m below is. c.loop-task.invariant.placed u m (omega (arith, tasks, c.loop-task-test.false, below)) is)
