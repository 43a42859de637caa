use Rattle.std.proofs.Common.{◌≡◌, drop, map}
use Rattle.std.specs.List.{flat_map}
use Rattle.pb_program.specs.Trees.{bare_transform}
use Rattle.pb_types.specs.Least.{least, least_of}
use Rattle.pb_types.specs.Working.{transform_in}
use Rattle.pb_types.proofs.check.transforms.Given as goal

abbrev pub invariant-loop-next : goal.invariant-loop-next
invariant-loop-next l =
    least l.found (least_of (flat_map (transform_in (map bare_transform l.transforms)) (drop l.next-index l.transforms))) ≡ least_of (flat_map (transform_in (map bare_transform l.transforms)) l.transforms)
