use Rattle.std.proofs.Common.{◌≡◌, flat_map, take}
use Rattle.pb_links.specs.Owners.{box_hits}
use Rattle.pb_links.proofs.before.find_all.Given as goal

abbrev pub invariant-loop-spot : goal.invariant-loop-spot
invariant-loop-spot l = l.found.items ≡ flat_map (box_hits l.table l.task) (take l.spot-index l.boxes)
