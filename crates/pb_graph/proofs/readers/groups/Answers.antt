use Rattle.std.proofs.Common.{◌≡◌, ◌∙◌, ap, subst, get_or, length, arith}
use Rattle.pb_linear.specs.Sizes.{leasts_of}
use Rattle.pb_graph.specs.Rows.{IsGroup}
use Rattle.pb_graph.proofs.SourceLemmas.{groups_next}
use Rattle.pb_graph.proofs.readers.groups.Goals as goal

pub loop-rule-preserved : goal.loop-rule-preserved
loop-rule-preserved c =
    let rules = c.args.reader.now.rules in
    let n = c.loop-rule.rule-index in
    let items : c.deref-rule-items.result.now ≡ rules = c.deref-rule-items.ensures.value ∙ ap (λ n. n.rules) c.reader.view_is in
    groups_next (leasts_of c.args.ranges.now) c.args.nodes.now c.args.reader.now.area c.args.reads.now rules _ _ n _ _ c.in_ok-group_of.field-0 (omega (arith, c.loop-rule-test.true, ap length items)) c.loop-rule.invariant (ap (λ l. get_or l n 0) items) (subst (λ a. IsGroup (leasts_of c.args.ranges.now) c.args.nodes.now a c.args.reads.now (get_or c.deref-rule-items.result.now n 0) c.in_ok-group_of.field-0) (ap (λ n. n.area) c.reader.view_is) c.in_ok-group_of.ensures.found) c.in_ok-push.ensures.items
