use Rattle.std.proofs.Common.{◌≡◌, ◌++◌, map, take}
use Rattle.std.specs.List.{flat_map}
use Rattle.pb_program.specs.Conditions.{view_conditions}
use Rattle.pb_region.specs.Gaps.{gap}
use Rattle.pb_region.proofs.gap.views_gaps.Given as goal

abbrev pub invariant-loop-view : goal.invariant-loop-view
invariant-loop-view l = l.gaps.items ≡ l.initial.gaps.items ++ map gap (flat_map (view_conditions l.matrices) (take l.view-index l.views))
