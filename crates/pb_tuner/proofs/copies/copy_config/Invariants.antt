use Rattle.std.proofs.Common.{◌≡◌, ◌++◌, drop}
use Rattle.pb_tuner.proofs.copies.copy_config.Given as goal

abbrev pub invariant-loop-entry : goal.invariant-loop-entry
invariant-loop-entry l = l.entries.items ++ drop l.entry-index l.config.entries ≡ l.fn.config.entries
