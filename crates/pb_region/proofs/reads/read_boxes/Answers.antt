use Rattle.pb_program.specs.Trees.{bare_prog}
use Rattle.pb_region.proofs.SmallLemmas.{small_rule, small_transform}
use Rattle.pb_region.proofs.reads.read_boxes.Goals as goal

pub rule_reads-requires-clause-transform : goal.rule_reads-requires-clause-transform
rule_reads-requires-clause-transform c = small_transform (bare_prog c.args.p.now) c.requires c.args.t _ c.in-Some.ensures.found

pub rule_reads-requires-clause-rule : goal.rule_reads-requires-clause-rule
rule_reads-requires-clause-rule c =
    small_rule (bare_prog c.args.p.now) c.requires c.args.t _ c.in-Some.ensures.found c.args.r _ c.in-Some-rule_at.ensures.found
