use Rattle.std.proofs.Common.{◌≡◌, map, take}
use Rattle.pb_grid.specs.Gaps.{made}
use Rattle.pb_grid.proofs.segments.segments.Given as goal

abbrev pub invariant-loop-segment : goal.invariant-loop-segment
invariant-loop-segment l = l.segments.items ≡ map made (take l.segment-index l.held)
