use Rattle.std.proofs.Common.{◌≡◌, drop}
use Rattle.pb_types.specs.Least.{least, least_of}
use Rattle.pb_types.specs.Plans.{numbered, target_misfit}
use Rattle.pb_types.proofs.known.Known.misfits.Given as goal

abbrev pub invariant-loop-i : goal.invariant-loop-i
invariant-loop-i l = least l.found (least_of (numbered (target_misfit l.self l.gives) l.i (drop l.i l.targets))) ≡ least_of (numbered (target_misfit l.self l.gives) 0 l.targets)
