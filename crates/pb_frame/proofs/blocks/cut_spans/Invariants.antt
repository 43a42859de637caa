use Rattle.std.proofs.Common.{◌≡◌, map}
use Rattle.std.specs.Int.{div_ceil}
use Rattle.std.specs.List.{range_with_len}
use Rattle.pb_frame.specs.Frames.{block_at, number_by}
use Rattle.pb_frame.proofs.blocks.cut_spans.Given as goal

abbrev pub invariant-loop-place : goal.invariant-loop-place
invariant-loop-place l = l.found.items ≡ map (λ place. block_at l.fn.side l.fn.top (number_by l.fn.sign (div_ceil l.fn.top l.fn.side) place)) (range_with_len 0 l.place)
