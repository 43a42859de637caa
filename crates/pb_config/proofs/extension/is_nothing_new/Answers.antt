use Rattle.std.proofs.Common.{ap, arith, ◌∙◌}
use Rattle.pb_config.proofs.ExtensionLemmas.{told_rule, told_cutoff}
use Rattle.pb_config.proofs.extension.is_nothing_new.Goals as goal

pub returns-then-last-rule : goal.returns-then-last-rule
returns-then-last-rule c =
    told_rule c.args.selector.now c.args.size c.args.rule c.in-Some.field-0.now c.deref.result.now (c.deref.ensures.value ∙ ap (λ s. s.levels) c.selector.view_is)
    (omega (arith, c.if-len-ge-MOST_CUTOFFS.false, c.len.ensures, c.deref.ensures.len)) c.in-Some.ensures.value c.if-last-rule.true

pub returns-else-last-rule : goal.returns-else-last-rule
returns-else-last-rule c =
    told_cutoff c.args.selector.now c.args.size c.args.rule c.in-Some.field-0.now c.deref.result.now (c.deref.ensures.value ∙ ap (λ s. s.levels) c.selector.view_is)
    (omega (arith, c.if-len-ge-MOST_CUTOFFS.false, c.len.ensures, c.deref.ensures.len)) c.in-Some.ensures.value c.if-last-rule.false
