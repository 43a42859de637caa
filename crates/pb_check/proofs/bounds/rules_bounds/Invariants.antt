use Rattle.std.proofs.Common.{take}
use Rattle.std.specs.List.{All}
use Rattle.pb_program.specs.Trees.{bare_transform}
use Rattle.pb_region.specs.Rules.{IsAccepted}
use Rattle.pb_check.proofs.bounds.rules_bounds.Given as goal

abbrev pub invariant-loop-r : goal.invariant-loop-r
invariant-loop-r l = All (IsAccepted (bare_transform l.transform)) (take l.r (bare_transform l.transform).rules)
