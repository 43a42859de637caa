use Rattle.std.proofs.Common.{◌≡◌, take}
use Rattle.std.specs.Prelude.{filter}
use Rattle.pb_program.specs.Trees.{bare_transform}
use Rattle.pb_frame.specs.Frames.{has_block}
use Rattle.pb_frame.proofs.blocks.blocks.Given as goal

abbrev pub invariant-loop-square : goal.invariant-loop-square
invariant-loop-square l = l.found.items ≡ filter (has_block (bare_transform l.transform) l.parts) (take l.square-index l.square-items)
