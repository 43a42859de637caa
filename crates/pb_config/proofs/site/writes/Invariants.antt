use Rattle.std.proofs.Common.{◌≡◌, drop, ◌==◌}
use Rattle.std.specs.List.{list_any}
use Rattle.pb_program.specs.Configs.{writes}
use Rattle.pb_program.specs.Trees.{bare_rule}
use Rattle.pb_config.proofs.site.writes.Given as goal

abbrev pub invariant-loop-output : goal.invariant-loop-output
invariant-loop-output l = list_any (λ o. o.matrix == l.matrix) (drop l.output-index l.rule.outs) ≡ writes l.matrix (bare_rule l.rule)
