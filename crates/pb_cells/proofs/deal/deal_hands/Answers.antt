use Rattle.std.proofs.Common.{◌∙◌, sym, arith}
use Rattle.pb_cells.proofs.CallLemmas.{filed-inside}
use Rattle.pb_cells.proofs.RuleLemmas.{hand-splits}
use Rattle.pb_cells.proofs.deal.deal_hands.Goals as goal

pub split_seat-seat-requires : goal.split_seat-seat-requires
split_seat-seat-requires g c =
    let inside = filed-inside g.N.NamesWork.plan _ _ _ c.cells.invariant.table in
    (c.loop-hand.invariant.table ∙ sym c.cells.view_is, omega (arith, inside), hand-splits g.N.NamesWork.plan c.loop-hand.first.id c.loop-hand.first.me.0)
