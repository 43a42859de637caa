use Rattle.std.proofs.Common.{◌≡◌, take}
use Rattle.std.specs.List.{enumerate_from, flat_map}
use Rattle.pb_program.specs.Trees.{bare_transform}
use Rattle.pb_check.proofs.OrderLemmas.{if_wide}
use Rattle.pb_check.proofs.orders.wide_rules.Given as goal

abbrev pub invariant-loop-r : goal.invariant-loop-r
invariant-loop-r l = l.rules.items ≡ flat_map if_wide (enumerate_from 0 (take l.r (bare_transform l.transform).rules))
