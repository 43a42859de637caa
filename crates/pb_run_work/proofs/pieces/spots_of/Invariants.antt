use Rattle.std.proofs.Common.{◌≡◌, map, take}
use Rattle.pb_plan.specs.Boxes.{spot_of}
use Rattle.pb_run_work.proofs.pieces.spots_of.Given as goal

abbrev pub invariant-loop-part : goal.invariant-loop-part
invariant-loop-part l = l.spots.items ≡ map (spot_of l.nodes) (take l.part-index l.parts)
