use Rattle.std.proofs.Common.{ap, subst, sym, ◌∙◌, arith}
use Rattle.std.specs.List.{All, position_or_len}
use Rattle.pb_linear.specs.Sizes.{leasts_of}
use Rattle.pb_grid.specs.Cuts.{AreSmall, le}
use Rattle.pb_grid.proofs.ListLemmas.{all_item, all_placed, ordered_more, placed_at}
use Rattle.pb_grid.proofs.cuts.in_order.Goals as goal

pub loop-done-preserved : goal.loop-done-preserved
loop-done-preserved c =
    let at_most = le (leasts_of c.args.ranges.now) in
    let x = c.index-cuts-cuts.result in
    let old = c.loop-done.ordered.items in
    let made = c.in_ok-insert.ensures.items in
    let at = c.place_of.ensures.found ∙ ap (position_or_len (at_most x)) c.deref.ensures.value in (
      ordered_more at_most c.args.cuts.now c.loop-done.done x old _ c.place_of.result (omega arith) c.index-cuts-cuts.is c.loop-done.invariant.0 at made,
      subst (All AreSmall) (sym (placed_at at_most x old _ c.place_of.result at made)) (all_placed AreSmall at_most x old (all_item AreSmall c.args.cuts.now _ x c.requires.cuts (omega arith) c.index-cuts-cuts.is) c.loop-done.invariant.1),
    )
