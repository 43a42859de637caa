use Rattle.std.proofs.Common.{◌≡◌, map, take}
use Rattle.std.specs.Prelude.{filter}
use Rattle.pb_program.specs.Trees.{bare_transform}
use Rattle.pb_frame.specs.Frames.{is_block_part, within}
use Rattle.pb_frame.proofs.blocks.block_parts.Given as goal

abbrev pub invariant-loop-part : goal.invariant-loop-part
invariant-loop-part l = l.found.items ≡ map (within l.square) (filter (is_block_part (bare_transform l.transform) l.square) (take l.part-index l.parts))
