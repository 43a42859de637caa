use Rattle.std.proofs.Common.{map, arith}
use Rattle.pb_grid.specs.Gaps.{held_by}
use Rattle.pb_grid.proofs.ListLemmas.{flat_mapped}
use Rattle.pb_grid.proofs.segments.segments_held.Goals as goal

pub loop-y-preserved : goal.loop-y-preserved
loop-y-preserved c =
    flat_mapped c.args.ys.now c.loop-y.y-index c.y-item.result (omega arith) c.y-item.is (λ y. map (λ x. held_by c.args.boxes.now x y) c.args.xs.now) c.loop-y.segments.items _ c.loop-y.invariant c.in_ok-push_row.ensures.found
