use Rattle.std.proofs.Common.{length, ap, arith}
use Rattle.pb_program.specs.Trees.{bare_rule}
use Rattle.pb_region.proofs.GapLemmas.{few_gaps}
use Rattle.pb_region.proofs.rule.rule_boxes.Goals as goal

pub refused-requires-clause-few : goal.refused-requires-clause-few
refused-requires-clause-few c =
    omega (arith, few_gaps c.deref.result.now (bare_rule c.args.rule.now) c.requires.rule, ap length c.deref-2.ensures.value, ap length c.in_ok-gaps.ensures.found)
