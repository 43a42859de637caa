use Rattle.std.proofs.Common.{◌≡◌, map, take}
use Rattle.std.specs.List.{flat_map}
use Rattle.pb_frame.specs.Frames.{square}
use Rattle.pb_frame.proofs.blocks.squares.Given as goal

abbrev pub invariant-loop-x : goal.invariant-loop-x
invariant-loop-x l = l.found.items ≡ flat_map (λ x. map (square x) l.ys.items) (take l.x-index l.x-items)
