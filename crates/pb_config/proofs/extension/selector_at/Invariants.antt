use Rattle.std.proofs.Common.{◌≡◌, drop}
use Rattle.pb_config.specs.Extension.{selector_at}
use Rattle.pb_config.proofs.extension.selector_at.Given as goal

abbrev pub invariant-loop-entry : goal.invariant-loop-entry
invariant-loop-entry l = selector_at (record { entries = drop l.entry-index l.c.entries }) l.site ≡ selector_at l.c l.site
