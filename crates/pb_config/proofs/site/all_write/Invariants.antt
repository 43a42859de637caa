use Rattle.std.proofs.Common.{◌≡◌, drop}
use Rattle.std.specs.List.{list_all}
use Rattle.pb_program.specs.Configs.{rule_writes}
use Rattle.pb_program.specs.Trees.{bare_transform}
use Rattle.pb_config.proofs.site.all_write.Given as goal

abbrev pub invariant-loop-rule : goal.invariant-loop-rule
invariant-loop-rule l =
    list_all (rule_writes (bare_transform l.t) l.matrix) (drop l.rule-index l.set) ≡ list_all (rule_writes (bare_transform l.t) l.matrix) l.set
