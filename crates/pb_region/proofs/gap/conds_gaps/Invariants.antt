use Rattle.std.proofs.Common.{◌≡◌, ◌++◌, map, take}
use Rattle.std.specs.List.{flat_map}
use Rattle.pb_program.specs.Conditions.{written}
use Rattle.pb_region.specs.Gaps.{gap}
use Rattle.pb_region.proofs.gap.conds_gaps.Given as goal

abbrev pub invariant-loop-cond : goal.invariant-loop-cond
invariant-loop-cond l = l.gaps.items ≡ l.initial.gaps.items ++ map gap (flat_map written (take l.cond-index l.conds))
