use Rattle.std.proofs.Common.{◌≡◌, ◌++◌, drop}
use Rattle.pb_config.proofs.extension.copy_entries.Given as goal

abbrev pub invariant-loop-entry : goal.invariant-loop-entry
invariant-loop-entry l = l.copy.items ++ drop l.entry-index l.entries ≡ l.fn.entries
