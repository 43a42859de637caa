use Rattle.std.proofs.Common.{◌∙◌, sym, ap, arith}
use Rattle.pb_cells.specs.Handles.{HandValue}
use Rattle.pb_cells.specs.Steps.{Me}
use Rattle.pb_cells.proofs.CallLemmas.{filed-inside, join-asks}
use Rattle.pb_cells.proofs.cells.Cells.end.Goals as goal

pub join_seat-requires : goal.join_seat-requires
join_seat-requires g c =
    let p = g.N.NamesWork.plan in
    let inside = filed-inside p _ _ _ c.self.invariant.table in (
      ap (λ (v : HandValue). v.table) c.hand.view_is ∙ (c.requires.hand_table ∙ sym c.self.view_is),
      c.into_seat.ensures.table ∙ (c.requires.job_table ∙ sym c.self.view_is),
      ap (λ (m : Me). m.1) c.into_seat.ensures.me,
      omega (arith, inside),
      join-asks p c.hand.inside.seat.id c.hand.inside.seat.me c.hand.invariant c.into_seat.result.id c.into_seat.result.me c.args.job.at c.args.job.opened c.into_seat.ensures.me c.into_seat.ensures.filed c.requires.finished c.requires.paid,
    )
