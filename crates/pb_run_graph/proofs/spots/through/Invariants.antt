use Rattle.std.proofs.Common.{◌≡◌, map, take}
use Rattle.pb_run_graph.specs.Ready.{seated}
use Rattle.pb_run_graph.proofs.spots.through.Given as goal

abbrev pub invariant-loop-spot : goal.invariant-loop-spot
invariant-loop-spot l = l.found.items ≡ map (seated l.seats) (take l.spot-index l.spots)
