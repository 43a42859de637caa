use Rattle.std.proofs.Common.{subst, sym}
use Rattle.pb_core.specs.Cores.{CoreValue, state_of}
use Rattle.pb_core.specs.Events.{AllFinished}
use Rattle.pb_locked.proofs.FinishedLemmas.{board-over}
use Rattle.pb_locked.proofs.TakeLemmas.{took-begun}
use Rattle.pb_locked.proofs.pool.begin_rest.Goals as goal

pub returns-in-Some-take-clause-begun : goal.returns-in-Some-take-clause-begun
returns-in-Some-take-clause-begun g c = took-begun g.N.NamesWork.plan c.graph-graph.ensures.plan c.args.board.now c.take.new.self c.args.hand c.in-Some-take.task c.done-done.ensures.board c.in-Some-take.ensures

pub returns-in-None-clause-finished : goal.returns-in-None-clause-finished
returns-in-None-clause-finished g c =
    let p = g.N.NamesWork.plan in
    subst (λ (v : CoreValue). AllFinished p.graph (state_of p v)) (sym c.in-None.ensures.1)
    (board-over p c.graph-graph.ensures.plan (state_of p c.args.board.now) c.done-done.ensures.board c.in_default.ensures c.in-None.ensures.0)
