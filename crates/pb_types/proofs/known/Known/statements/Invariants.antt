use Rattle.std.proofs.Common.{◌≡◌, drop}
use Rattle.pb_types.specs.Least.{least, least_of}
use Rattle.std.proofs.Common.{map}
use Rattle.pb_program.specs.Trees.{bare_transform}
use Rattle.pb_types.specs.Working.{steps_in}
use Rattle.pb_types.proofs.known.Known.statements.Given as goal

abbrev pub invariant-loop-next : goal.invariant-loop-next
invariant-loop-next l =
    least l.found (least_of (steps_in (map bare_transform l.transforms) l.self (drop l.next-index l.ss))) ≡ least_of (steps_in (map bare_transform l.transforms) l.initial.self l.ss)
