use Rattle.std.proofs.Common.{◌∙◌, subst, take, sym, ap, arith}
use Rattle.std.specs.List.{All, list_any}
use Rattle.std.proofs.lemmas.List.Elements.{All-push}
use Rattle.pb_linear.specs.Sizes.{leasts_of}
use Rattle.pb_grid.specs.Cuts.{AreSmall, same}
use Rattle.pb_grid.specs.Lists.{firsts}
use Rattle.pb_grid.proofs.CutLemmas.{same-trans}
use Rattle.pb_grid.proofs.ListLemmas.{all_item, firsts_known, firsts_new, taken}
use Rattle.pb_grid.proofs.cuts.firsts.Goals as goal

pub loop-form-preserved-then-is_known : goal.loop-form-preserved-then-is_known
loop-form-preserved-then-is_known c =
    let leasts = leasts_of c.args.ranges.now in
    let list = c.args.list.now in
    let i = c.loop-form.form-index in
    let x = c.form-item.result in
    (firsts_known (same leasts) (same-trans leasts) (take i list) x c.loop-form.cuts.items c.loop-form.invariant.0 (ap (list_any (λ z. same leasts z x)) (sym c.deref.ensures.value) ∙ sym c.is_known.ensures ∙ c.if-is_known.true) ∙ ap (firsts (same leasts)) (sym (taken list i x (omega arith) c.form-item.is)), c.loop-form.invariant.1)

pub loop-form-preserved : goal.loop-form-preserved
loop-form-preserved c =
    let leasts = leasts_of c.args.ranges.now in
    let list = c.args.list.now in
    let i = c.loop-form.form-index in
    let x = c.form-item.result in
    (firsts_new (same leasts) (same-trans leasts) (take i list) x c.loop-form.cuts.items _ c.loop-form.invariant.0 (ap (list_any (λ z. same leasts z x)) (sym c.deref.ensures.value) ∙ sym c.is_known.ensures ∙ c.if-is_known.false) c.in_ok-push.ensures.items ∙ ap (firsts (same leasts)) (sym (taken list i x (omega arith) c.form-item.is)), subst (All AreSmall) (sym c.in_ok-push.ensures.items) (All-push AreSmall c.loop-form.cuts.items x c.loop-form.invariant.1 (all_item AreSmall list i x c.requires.list (omega arith) c.form-item.is)))
