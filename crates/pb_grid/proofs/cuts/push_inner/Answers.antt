use Rattle.std.proofs.Common.{◌∙◌, ◌++◌, [], ◌∷◌, subst, take, sym, ap, append_assoc, arith}
use Rattle.std.specs.Prelude.{filter}
use Rattle.std.specs.List.{All}
use Rattle.std.proofs.lemmas.List.Elements.{All-push}
use Rattle.pb_linear.specs.Sizes.{leasts_of}
use Rattle.pb_grid.specs.Cuts.{AreSmall, is_inner}
use Rattle.pb_grid.proofs.ListLemmas.{filter_kept, all_item}
use Rattle.pb_grid.proofs.cuts.push_inner.Goals as goal

pub loop-bound-preserved : goal.loop-bound-preserved
loop-bound-preserved c =
    let test = is_inner (leasts_of c.args.ranges.now) c.args.side.now in
    let x = c.bound-item.result in
    let i = c.loop-bound.bound-index in
    let bounds = c.args.bounds.now in
    let pushed = c.in_ok-push.ensures.items in (
      pushed ∙ ap (λ l. l ++ x ∷ []) c.loop-bound.invariant.0 ∙ append_assoc c.args.list.now.items (filter test (take i bounds)) (x ∷ []) ∙ ap (λ l. c.args.list.now.items ++ l) (sym (filter_kept bounds i x (omega arith) c.bound-item.is test (sym c.is_inner.ensures ∙ c.if-not-is_inner.false))),
      subst (All AreSmall) (sym pushed) (All-push AreSmall c.loop-bound.list.items x c.loop-bound.invariant.1 (all_item AreSmall bounds i x c.requires.bounds (omega arith) c.bound-item.is)),
    )
