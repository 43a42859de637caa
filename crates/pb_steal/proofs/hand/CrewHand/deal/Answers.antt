use Rattle.std.proofs.Common.{◌∙◌, ◌<◌, ap, length, subst, sym}
use Rattle.std.specs.List.{Contains}
use Rattle.pb_steal.specs.Deques.{OwnValue}
use Rattle.pb_steal.specs.Hands.{CrewHandValue, IsCrewHand}
use Rattle.pb_steal.proofs.DealLemmas.{deal-is, deal-room}
use Rattle.pb_steal.proofs.hand.CrewHand.deal.Goals as goal

pub push-requires : goal.push-requires
push-requires g c =
    let p = g.N.NamesWork.plan in
    deal-room p g.B.NamesTable.table _ c.self.invariant.1 c.args.ticket (ap (λ (h : CrewHandValue). h.seat.opened) c.self.view_is ∙ c.requires.new)
    (subst (λ (h : CrewHandValue). Contains h.own.pushed c.args.ticket → ⊥) (sym c.self.view_is) c.requires.fresh)
    (subst (λ t. t < length p.graph.tasks) c.task.ensures.task c.task.ensures.below) c.requires.ready

pub invariant_of-self : goal.invariant_of-self
invariant_of-self g c =
    let p = g.N.NamesWork.plan in (
      c.self.invariant.0,
      subst (λ (o : OwnValue). IsCrewHand p g.B.NamesTable.table (record { seat = c.self.inside.runner.seat; ran = c.self.inside.runner.ran; own = o; others = c.self.inside.others.items; done = c.self.inside.done })) (sym c.push.ensures)
          (deal-is p g.B.NamesTable.table _ c.self.invariant.1 c.args.ticket (ap (λ (h : CrewHandValue). h.seat.opened) c.self.view_is ∙ c.requires.new)
          (subst (λ (h : CrewHandValue). Contains h.own.pushed c.args.ticket → ⊥) (sym c.self.view_is) c.requires.fresh)
          (subst (λ t. t < length p.graph.tasks) c.task.ensures.task c.task.ensures.below) c.requires.ready),
    )
