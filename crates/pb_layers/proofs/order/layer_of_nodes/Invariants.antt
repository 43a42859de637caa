use Rattle.std.proofs.Common.{◌≡◌, map, slice_index, take}
use Rattle.pb_layers.proofs.order.layer_of_nodes.Given as goal

abbrev pub invariant-loop-root : goal.invariant-loop-root
invariant-loop-root l = l.layer.items ≡ map (slice_index l.places) (take l.root-index l.least)
