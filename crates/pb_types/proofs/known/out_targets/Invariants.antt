use Rattle.std.proofs.Common.{◌≡◌, ◌++◌, map, drop}
use Rattle.pb_types.specs.Plans.{out_target}
use Rattle.pb_types.proofs.known.out_targets.Given as goal

abbrev pub invariant-loop-next : goal.invariant-loop-next
invariant-loop-next l = l.found.items ++ map out_target (drop l.next-index l.outs) ≡ map out_target l.outs
