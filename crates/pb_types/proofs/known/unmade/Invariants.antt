use Rattle.std.proofs.Common.{◌≡◌, drop}
use Rattle.std.specs.List.{flat_map}
use Rattle.pb_types.specs.Least.{least, least_of}
use Rattle.pb_types.specs.Plans.{unmade}
use Rattle.pb_types.proofs.known.unmade.Given as goal

abbrev pub invariant-loop-next : goal.invariant-loop-next
invariant-loop-next l = least l.found (least_of (flat_map unmade (drop l.next-index l.targets))) ≡ least_of (flat_map unmade l.targets)
