use Rattle.std.proofs.Common.{◌≡◌, drop}
use Rattle.std.specs.List.{find}
use Rattle.pb_grid.specs.Gaps.{is_bare}
use Rattle.pb_grid.proofs.segments.uncovered.Given as goal

abbrev pub invariant-loop-segment : goal.invariant-loop-segment
invariant-loop-segment l = find is_bare l.segments ≡ find is_bare (drop l.segment-index l.segments)
