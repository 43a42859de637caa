use Rattle.std.proofs.Common.{◌≡◌, drop}
use Rattle.pb_types.specs.Least.{least, least_of}
use Rattle.pb_types.specs.Plans.{numbered}
use Rattle.pb_types.specs.Working.{argument_in}
use Rattle.pb_types.proofs.known.Known.arguments.Given as goal

abbrev pub invariant-loop-i : goal.invariant-loop-i
invariant-loop-i l = least l.found (least_of (numbered (argument_in l.self l.takes) l.i (drop l.i l.arguments))) ≡ least_of (numbered (argument_in l.self l.takes) 0 l.arguments)
