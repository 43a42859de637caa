use Rattle.std.proofs.Common.{◌≡◌, ◌++◌, map, take}
use Rattle.pb_frame.proofs.blocks.list_blocks.Given as goal

abbrev pub invariant-loop-square : goal.invariant-loop-square
invariant-loop-square l = l.listed.items ≡ l.initial.listed.items ++ map (λ b. (l.layer, b)) (take l.square-index l.found)
