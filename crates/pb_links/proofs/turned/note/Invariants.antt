use Rattle.std.proofs.Common.{take}
use Rattle.pb_links.specs.Turned.{IsNoted}
use Rattle.pb_links.proofs.turned.note.Given as goal

abbrev pub invariant-loop-at : goal.invariant-loop-at
invariant-loop-at l = IsNoted l.initial.lists.items l.lists.items (take l.at-index l.numbers) l.task
