use Rattle.std.proofs.Common.{◌≡◌, ◌∙◌, ◌+◌, ap, map, subst, sym, take}
use Rattle.std.specs.Prelude.{Some, slice_get}
use Rattle.std.specs.List.{enumerate_from, flat_map}
use Rattle.pb_program.specs.Transforms.{TransformValue}
use Rattle.pb_program.specs.Trees.{bare_rule, bare_transform}
use Rattle.pb_region.proofs.RuleLemmas.{held_at}
use Rattle.pb_check.proofs.OrderLemmas.{if_wide, wide_more, wide_same}
use Rattle.pb_check.proofs.orders.wide_rules.Goals as goal
use Rattle.pb_check.proofs.orders.wide_rules.Goals.{then-is_wide+in_ok-push, else-is_wide}

pub loop-r-preserved : goal.loop-r-preserved
loop-r-preserved c =
    let t = bare_transform c.args.transform.now in
    let rule = bare_rule c.rule-item.result in
    let held : c.deref-rule-items.result.now ≡ c.args.transform.now.rules = c.deref-rule-items.ensures.value ∙ ap (λ (x : TransformValue). x.rules) c.transform.view_is in
    let there : slice_get t.rules c.loop-r.r ≡ Some rule = subst (λ rs. slice_get (map bare_rule rs) c.loop-r.r ≡ Some rule) held (held_at bare_rule c.deref-rule-items.result.now c.loop-r.r c.rule-item.result c.loop-r-test.true c.rule-item.is) in
    elim c.if-is_wide.branch [
      | then-is_wide+in_ok-push w ↦ wide_more t c.loop-r.r rule c.loop-r.rules.items c.if-is_wide.rules.items there (sym c.is_wide.ensures ∙ w.if-is_wide.true) c.loop-r.invariant (ap (λ (v : _). v.items) w.rules-is ∙ w.in_ok-push.ensures.items)
      | else-is_wide w ↦ subst (λ l. l ≡ flat_map if_wide (enumerate_from 0 (take (c.loop-r.r + 1) t.rules))) (ap (λ (v : _). v.items) (sym w.rules-is)) (wide_same t c.loop-r.r rule c.loop-r.rules.items there (sym c.is_wide.ensures ∙ w.if-is_wide.false) c.loop-r.invariant)
    ]
