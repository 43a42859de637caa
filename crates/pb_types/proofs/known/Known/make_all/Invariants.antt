use Rattle.std.proofs.Common.{◌≡◌, drop}
use Rattle.pb_types.specs.Least.{least, least_of}
use Rattle.pb_types.specs.Plans.{make_all, targets_broken}
use Rattle.pb_types.proofs.known.Known.make_all.Given as goal

abbrev pub invariant-loop-next : goal.invariant-loop-next
invariant-loop-next l =
    (least l.found (least_of (targets_broken l.self (drop l.next-index l.targets))) ≡ least_of (targets_broken l.initial.self l.targets))
    × (make_all l.self (drop l.next-index l.targets) ≡ make_all l.initial.self l.targets)
