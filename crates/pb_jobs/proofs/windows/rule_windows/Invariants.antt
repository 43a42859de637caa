use Rattle.std.proofs.Common.{map, take}
use Rattle.pb_linear.specs.Sizes.{sizes_of}
use Rattle.pb_program.specs.Trees.{bare_rule}
use Rattle.pb_jobs.specs.Shown.{AreRuleWindows}
use Rattle.pb_jobs.proofs.windows.rule_windows.Given as goal

abbrev pub invariant-loop-rule : goal.invariant-loop-rule
invariant-loop-rule l = AreRuleWindows (sizes_of l.s) (map bare_rule (take l.rule-index l.rules)) l.windows.items
