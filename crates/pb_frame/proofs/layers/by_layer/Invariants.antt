use Rattle.std.proofs.Common.{◌≡◌, map, take}
use Rattle.std.specs.List.{range_with_len}
use Rattle.std.proofs.Common.{length}
use Rattle.pb_frame.specs.Frames.{in_layer}
use Rattle.pb_frame.proofs.layers.by_layer.Given as goal

abbrev pub invariant-loop-part : goal.invariant-loop-part
invariant-loop-part l = l.layers.items ≡ map (in_layer l.order (take l.part-index l.parts)) (range_with_len 0 (length l.order.layers))
