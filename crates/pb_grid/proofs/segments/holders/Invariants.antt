use Rattle.std.proofs.Common.{◌≡◌, map, take}
use Rattle.pb_grid.specs.Gaps.{both_held}
use Rattle.pb_grid.specs.Segments.{holder_of}
use Rattle.pb_grid.proofs.segments.holders.Given as goal

abbrev pub invariant-loop-place : goal.invariant-loop-place
invariant-loop-place l = l.holders.items ≡ map holder_of (both_held (take l.place l.x.held) (take l.place l.y.held) (take l.place l.boxes))
