use Rattle.pb_links.specs.Owners.{IsTable}
use Rattle.pb_links.proofs.owners.owned_parts.Given as goal

abbrev pub invariant-loop-task : goal.invariant-loop-task
invariant-loop-task l = IsTable l.tasks l.task l.bases l.table.items
