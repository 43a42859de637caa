use Rattle.std.proofs.Common.{◌∙◌, ap, arith, below_more, length}
use Rattle.pb_taskgraph.specs.Graphs.{GraphValue}
use Rattle.pb_locked.proofs.ScanLemmas.{found-begun, none-begun, not-begun}
use Rattle.pb_locked.proofs.board.Board.begun.Goals as goal

pub returns-in-Some : goal.returns-in-Some
returns-in-Some g c = found-begun g.N.NamesWork.plan _ c.args.self.now c.self.view_is c.loop-task.task c.progress.result c.progress.ensures c.in-Some.hand ((c.begun_by.ensures c.in-Some.hand).0 c.in-Some.is)

pub loop-task-preserved : goal.loop-task-preserved
loop-task-preserved g c = below_more _ _ c.loop-task.invariant
    (not-begun g.N.NamesWork.plan _ c.args.self.now c.self.view_is c.loop-task.task c.progress.result c.progress.ensures (λ hand begun. c.in_default.not-Some hand ((c.begun_by.ensures hand).1 begun)))

pub returns : goal.returns
returns g c =
    let tasks = ap length (c.tasks-task-end.ensures.tasks ∙ ap (λ (h : GraphValue). h.tasks) c.graph.ensures.graph) in
    none-begun g.N.NamesWork.plan c.graph.ensures.plan _ c.args.self.now c.self.view_is c.self.invariant.0 (λ k below. c.loop-task.invariant k (omega (arith, tasks, c.loop-task-test.false)))
