use Rattle.std.proofs.Common.{arith}
use Rattle.pb_linear.specs.Sizes.{leasts_of}
use Rattle.pb_grid.specs.Gaps.{gap_of}
use Rattle.pb_grid.proofs.ListLemmas.{neighbours_more}
use Rattle.pb_grid.proofs.gaps.gaps.Goals as goal

pub loop-next-preserved : goal.loop-next-preserved
loop-next-preserved c =
    neighbours_more (gap_of (leasts_of c.args.ranges.now) c.args.axis c.args.boxes.now) c.args.cuts.now c.loop-next.next c.index-cuts-next.result c.index-cuts-next-in-loop-next.result c.loop-next.gaps.items _ c.in_ok-gap_between.field-0 c.loop-next.auto.next (omega arith) c.index-cuts-next.is c.index-cuts-next-in-loop-next.is c.loop-next.invariant c.in_ok-gap_between.ensures.found c.in_ok-push.ensures.items
