use Rattle.std.proofs.Common.{◌≡◌, ◌++◌, map, take}
use Rattle.pb_grid.specs.Gaps.{held_by}
use Rattle.pb_grid.proofs.segments.push_row.Given as goal

abbrev pub invariant-loop-x : goal.invariant-loop-x
invariant-loop-x l = l.segments.items ≡ l.initial.segments.items ++ map (λ x. held_by l.boxes x l.y) (take l.x-index l.xs)
