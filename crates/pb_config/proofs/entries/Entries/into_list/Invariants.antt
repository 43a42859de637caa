use Rattle.std.proofs.Common.{◌≡◌, ◌++◌, map}
use Rattle.pb_config.specs.Keys.{entry}
use Rattle.pb_config.proofs.entries.Entries.into_list.Given as goal

abbrev pub invariant-loop-transform : goal.invariant-loop-transform
invariant-loop-transform l = l.entries.items ++ map entry l.transform-iterator ≡ l.fn.self
