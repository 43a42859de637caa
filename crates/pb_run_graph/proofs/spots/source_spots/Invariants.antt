use Rattle.std.proofs.Common.{◌≡◌, map, take}
use Rattle.pb_run_graph.specs.Ready.{source_spot}
use Rattle.pb_run_graph.proofs.spots.source_spots.Given as goal

abbrev pub invariant-loop-part : goal.invariant-loop-part
invariant-loop-part l = l.found.items ≡ map (source_spot l.copied) (take l.part-index l.copied.parts)
