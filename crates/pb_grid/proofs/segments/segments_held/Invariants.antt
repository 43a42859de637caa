use Rattle.std.proofs.Common.{◌≡◌, map, take}
use Rattle.std.specs.List.{flat_map}
use Rattle.pb_grid.specs.Gaps.{held_by}
use Rattle.pb_grid.proofs.segments.segments_held.Given as goal

abbrev pub invariant-loop-y : goal.invariant-loop-y
invariant-loop-y l = l.segments.items ≡ flat_map (λ y. map (λ x. held_by l.boxes x y) l.xs) (take l.y-index l.ys)
