use Rattle.std.proofs.Common.{◌∙◌, ◌++◌, ◌∷◌, [], ap, length, sym, arith}
use Rattle.pb_taskgraph.specs.Graphs.{GraphValue}
use Rattle.pb_taskgraph.proofs.OwnerLemmas.{range-more}
use Rattle.pb_taskgraph.proofs.SerialLemmas.{all-written}
use Rattle.pb_taskgraph.proofs.serial.run_serial.Goals as goal

pub loop-task-preserved : goal.loop-task-preserved
loop-task-preserved g c = record {
  written = c.run_task-outcomes.ensures.written;
  fits = c.run_task-outcomes.ensures.fits;
  order = c.in_ok-push.ensures.items ∙ ap (λ l. l ++ c.loop-task.task ∷ []) c.loop-task.invariant.order ∙ sym (range-more c.loop-task.task);
}

pub returns-clause-outcomes : goal.returns-clause-outcomes
returns-clause-outcomes g c =
    let tasks = ap length (c.tasks-task-end.ensures.tasks ∙ ap (λ (h : GraphValue). h.tasks) c.graph-graph.ensures.graph) in
    all-written (g.W.Work.plan c.args.work.now) c.graph-graph.ensures.plan c.loop-task.task (omega (arith, tasks, c.loop-task-test.false)) c.loop-task.outcomes c.loop-task.invariant.written
