use Rattle.std.proofs.Common.{◌≡◌, ◌∙◌, ◌++◌, ap, map, subst, sym}
use Rattle.std.specs.Prelude.{Some, slice_get}
use Rattle.pb_program.specs.Transforms.{TransformValue}
use Rattle.pb_program.specs.Trees.{bare_rule, bare_transform}
use Rattle.pb_region.specs.Reads.{reads_of}
use Rattle.pb_region.proofs.RuleLemmas.{held_at}
use Rattle.pb_check.proofs.OrderLemmas.{more_reads}
use Rattle.pb_check.proofs.orders.made_reads.Goals as goal

pub loop-r-preserved : goal.loop-r-preserved
loop-r-preserved c =
    let t = bare_transform c.args.transform.now in
    let rule = bare_rule c.rule-item.result in
    let held : c.deref-rule-items.result.now ≡ c.args.transform.now.rules = c.deref-rule-items.ensures.value ∙ ap (λ (x : TransformValue). x.rules) c.transform.view_is in
    let there : slice_get t.rules c.loop-r.r ≡ Some rule = subst (λ rs. slice_get (map bare_rule rs) c.loop-r.r ≡ Some rule) held (held_at bare_rule c.deref-rule-items.result.now c.loop-r.r c.rule-item.result c.loop-r-test.true c.rule-item.is) in
    c.in_ok-add_reads.ensures.found ∙ ap (λ l. l ++ reads_of t c.loop-r.r rule) c.loop-r.invariant ∙ sym (more_reads t c.loop-r.r rule there)
