use Rattle.pb_program.specs.Trees.{bare_prog}
use Rattle.pb_region.proofs.SmallLemmas.{small_rule, small_transform}
use Rattle.pb_region.proofs.rule.conditions.Goals as goal

pub rule_boxes-requires-clause-transform : goal.rule_boxes-requires-clause-transform
rule_boxes-requires-clause-transform c = small_transform (bare_prog c.args.p.now) c.requires c.args.t _ c.in-Some.ensures.found

pub rule_boxes-requires-clause-rule : goal.rule_boxes-requires-clause-rule
rule_boxes-requires-clause-rule c =
    small_rule (bare_prog c.args.p.now) c.requires c.args.t _ c.in-Some.ensures.found c.args.r _ c.in-Some-rule_at.ensures.found
