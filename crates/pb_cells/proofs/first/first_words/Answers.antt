use Rattle.std.proofs.Common.{◌≡◌, ◌∙◌, ◌<◌, ap, get_or, length, arith}
use Rattle.pb_taskgraph.specs.Graphs.{GraphValue, TaskValue, before_of}
use Rattle.pb_taskgraph.proofs.GraphLemmas.{before-at}
use Rattle.pb_cells.proofs.FirstLemmas.{count-more, told-count}
use Rattle.pb_cells.proofs.first.first_words.Goals as goal

pub loop-task-preserved : goal.loop-task-preserved
loop-task-preserved g c =
    let p = g.W.Work.plan c.args.work.now in
    let k = c.loop-task.task in
    let task = c.index-tasks-task.result in
    let tasks : c.tasks-tasks.result.now ≡ p.graph.tasks = c.tasks-tasks.ensures.tasks ∙ ap (λ (h : GraphValue). h.tasks) c.graph-graph.ensures.graph in
    let below : k < length p.graph.tasks = omega (arith, ap length tasks) in
    let is : task ≡ get_or p.graph.tasks k task = c.index-tasks-task.is ∙ ap (λ l. get_or l k task) tasks in
    let cells : c.cells-cells.result ≡ p.graph.cells = c.cells-cells.ensures ∙ ap (λ (h : GraphValue). h.cells) c.graph-graph.ensures.graph in
    let count : c.len.result ≡ length (before_of p.graph k) =
    omega (arith, c.len.ensures, c.links.inside.before.ok.0, ap (λ (t : TaskValue). length t.before) c.links.view_is, ap length (before-at p.graph k task below is)) in
    record {
      told = told-count p c.graph-graph.ensures.plan c.loop-task.words.items p.graph.inputs c.loop-task.invariant.told c.cells-cells.result k c.len.result below cells count;
      counts = count-more p c.graph-graph.ensures.plan c.loop-task.words.items p.graph.inputs c.loop-task.invariant.told c.cells-cells.result k c.len.result below cells count c.loop-task.invariant.counts;
    }
