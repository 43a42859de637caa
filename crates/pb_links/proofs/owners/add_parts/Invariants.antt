use Rattle.std.proofs.Common.{take}
use Rattle.pb_links.specs.Owners.{IsAdded}
use Rattle.pb_links.proofs.owners.add_parts.Given as goal

abbrev pub invariant-loop-part : goal.invariant-loop-part
invariant-loop-part l = IsAdded l.initial.table.items l.table.items l.task (take l.part-index l.parts)
