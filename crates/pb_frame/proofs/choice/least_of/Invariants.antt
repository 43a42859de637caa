use Rattle.std.proofs.Common.{◌≡◌, take}
use Rattle.std.specs.Prelude.{filter}
use Rattle.pb_program.specs.Trees.{bare_transform}
use Rattle.pb_check.specs.Sites.{is_least}
use Rattle.pb_frame.proofs.choice.least_of.Given as goal

abbrev pub invariant-loop-rule : goal.invariant-loop-rule
invariant-loop-rule l = l.set.items ≡ filter (is_least (bare_transform l.transform) l.rules) (take l.rule-index l.rules)
