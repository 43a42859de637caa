use Rattle.std.proofs.Common.{◌≡◌, ◌∙◌, ap, length, refl}
use Rattle.pb_taskgraph.specs.Graphs.{GraphValue}
use Rattle.pb_taskgraph.specs.Plans.{Plan}
use Rattle.pb_steal.specs.Hands.{RunnerValue}
use Rattle.pb_steal.proofs.TurnLemmas.{none-is, ran-room}
use Rattle.pb_steal.proofs.crew.Crew.turn.Goals as goal

pub push_row-requires-after_bounds : goal.push_row-requires-after_bounds
push_row-requires-after_bounds g c κs within =
    ran-room g.N.NamesWork.plan g.B.NamesTable.table _ c.hand.invariant.1 c.in-Some.ticket c.take.new.own c.take.new.others.items c.in-Some.ensures c.hand.inside.runner c.run.new.self refl refl c.run.ensures c.tell.ensures.table c.tell.ensures.told

pub invariant_of-hand-in-None : goal.invariant_of-hand-in-None
invariant_of-hand-in-None g c =
    let p : Plan = g.N.NamesWork.plan in
    let all : length c.tasks.result.now ≡ length p.graph.tasks = ap length (c.tasks.ensures.tasks ∙ ap (λ (h : GraphValue). h.tasks) c.graph.ensures.graph) ∙ ap (λ (q : Plan). length q.graph.tasks) c.self.invariant.0 in (
      ap (λ (r : RunnerValue). r.row) c.look.ensures.same ∙ c.hand.invariant.0,
      none-is p g.B.NamesTable.table _ c.hand.invariant.1 c.take.new.own c.take.new.others.items c.in-None.ensures c.hand.inside.runner.row c.look.result (length c.tasks.result.now) all c.look.new.self c.look.ensures.same,
    )
