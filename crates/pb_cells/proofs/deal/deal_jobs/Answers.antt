use Rattle.std.proofs.Common.{◌≡◌, ◌∙◌, ◌+◌, ◌∷◌, sym, ap, drop, get_or, arith}
use Rattle.std.proofs.lemmas.List.{drop_more}
use Rattle.std.proofs.lemmas.List.Elements.{Contains-get_or}
use Rattle.pb_cells.specs.Steps.{Me}
use Rattle.pb_cells.proofs.CallLemmas.{filed-inside}
use Rattle.pb_cells.proofs.RuleLemmas.{turn-splits}
use Rattle.pb_cells.proofs.deal.deal_jobs.Goals as goal

pub split_seat-seat-requires : goal.split_seat-seat-requires
split_seat-seat-requires g c =
    let inside = filed-inside g.N.NamesWork.plan _ _ _ c.cells.invariant.table in
    let ready = c.args.ready.now in
    let k = c.loop-place.place in
    let turns : c.loop-place.first.me.0.turns ≡ get_or ready k 0 ∷ drop (k + 1) ready = ap (λ (m : Me). m.0.turns) c.loop-place.invariant.turns ∙ drop_more ready k 0 (omega arith) in (
      c.loop-place.invariant.table ∙ sym c.cells.view_is,
      omega (arith, inside),
      turn-splits g.N.NamesWork.plan c.loop-place.first.id c.loop-place.first.me.0 (get_or ready k 0) (drop (k + 1) ready) turns,
    )

pub of-requires-clause-task : goal.of-requires-clause-task
of-requires-clause-task g c = c.requires.tasks (get_or c.args.ready.now c.loop-place.place 0) (Contains-get_or c.args.ready.now c.loop-place.place 0 (omega arith))
