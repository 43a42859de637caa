use Rattle.std.proofs.Common.{◌∙◌, ap, sym, arith}
use Rattle.std.specs.Prelude.{nat_eq}
use Rattle.std.specs.List.{list_any}
use Rattle.pb_grid.proofs.GapLemmas.{best_known, best_new}
use Rattle.pb_grid.proofs.segments.best.Goals as goal

pub loop-holder-preserved-then-contains : goal.loop-holder-preserved-then-contains
loop-holder-preserved-then-contains c =
    best_known c.args.holders.now c.loop-holder.holder-index _ (omega arith) c.loop-holder.rules.items c.loop-holder.rules.items c.loop-holder.invariant (sym c.is_best.ensures ∙ c.if-not-is_best.false) (ap (list_any (λ z. nat_eq z _)) (sym c.deref.ensures.value) ∙ sym c.contains.ensures.value ∙ c.if-contains.true)

pub loop-holder-preserved : goal.loop-holder-preserved
loop-holder-preserved c =
    best_new c.args.holders.now c.loop-holder.holder-index _ (omega arith) c.loop-holder.rules.items _ c.loop-holder.invariant (sym c.is_best.ensures ∙ c.if-not-is_best.false) (ap (list_any (λ z. nat_eq z _)) (sym c.deref.ensures.value) ∙ sym c.contains.ensures.value ∙ c.if-contains.false) c.in_ok-push.ensures.items
