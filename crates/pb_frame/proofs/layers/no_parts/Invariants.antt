use Rattle.std.proofs.Common.{◌≡◌, map, []}
use Rattle.std.specs.List.{range_with_len}
use Rattle.pb_frame.proofs.layers.no_parts.Given as goal

abbrev pub invariant-loop-layer : goal.invariant-loop-layer
invariant-loop-layer l = l.layers.items ≡ map (λ layer. []) (range_with_len 0 l._layer)
