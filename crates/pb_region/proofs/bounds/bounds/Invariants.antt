use Rattle.std.proofs.Common.{◌≡◌, map, take}
use Rattle.pb_linear.specs.Form.{numbers}
use Rattle.pb_region.specs.Boxes.{bounds}
use Rattle.pb_region.proofs.bounds.bounds.Given as goal

abbrev pub invariant-loop-gap : goal.invariant-loop-gap
invariant-loop-gap l = map numbers l.bounds.items ≡ bounds l.side l.axis (take l.gap-index l.gaps)
