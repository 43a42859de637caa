use Rattle.std.proofs.Common.{◌∙◌, ap, sym, subst, get_or, List}
use Rattle.pb_linear.specs.Sizes.{sizes_of}
use Rattle.pb_program.specs.Forms.{DeclValue}
use Rattle.pb_program.specs.Transforms.{TransformValue}
use Rattle.pb_program.specs.Trees.{bare_rule}
use Rattle.pb_region.proofs.RuleLemmas.{held_at}
use Rattle.pb_instance_cost.specs.Parts.{at_start}
use Rattle.pb_instance_cost.specs.Shown.{CanShowRule}
use Rattle.pb_instance_cost.proofs.parts.wide_cost.Goals as goal

pub rule_cost-requires-clause-can : goal.rule_cost-requires-clause-can
rule_cost-requires-clause-can c =
    let rule = c.index-rule.result.now in
    let is = c.index-rule.ensures ∙ ap (λ (t : TransformValue). get_or t.rules c.args.k rule) c.transform.view_is in
    subst (λ (ms : List DeclValue). CanShowRule ms (sizes_of c.args.s.now) at_start (bare_rule rule)) (sym (c.deref.ensures.value ∙ ap (λ (t : TransformValue). t.matrices) c.transform.view_is))
    (c.requires.can c.args.k (bare_rule rule) (held_at bare_rule c.args.transform.now.rules c.args.k rule c.requires.there is) (sym c.is_wide_of.ensures ∙ c.if-is_wide_of.true))
