use Rattle.std.proofs.Common.{◌≡◌, map, take}
use Rattle.std.specs.Prelude.{filter}
use Rattle.pb_frame.specs.Frames.{within}
use Rattle.pb_steps.specs.Stands.{is_common}
use Rattle.pb_steps.proofs.copies.common_parts.Given as goal

abbrev pub invariant-loop-part : goal.invariant-loop-part
invariant-loop-part l = l.found.items ≡ map (within l.rect) (filter (is_common l.nodes l.matrix l.rect) (take l.part-index l.parts))
