use Rattle.std.proofs.Common.{◌≡◌, ◌++◌, map, take}
use Rattle.pb_frame.specs.Frames.{square}
use Rattle.pb_frame.proofs.blocks.add_column.Given as goal

abbrev pub invariant-loop-y : goal.invariant-loop-y
invariant-loop-y l = l.squares.items ≡ l.initial.squares.items ++ map (square l.x) (take l.y-index l.ys)
