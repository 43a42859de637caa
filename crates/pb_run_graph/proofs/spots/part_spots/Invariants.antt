use Rattle.std.proofs.Common.{◌≡◌, map, take}
use Rattle.pb_run_graph.specs.Ready.{part_spot}
use Rattle.pb_run_graph.proofs.spots.part_spots.Given as goal

abbrev pub invariant-loop-part : goal.invariant-loop-part
invariant-loop-part l = l.found.items ≡ map (part_spot l.nodes l.seats) (take l.part-index l.parts)
