use Rattle.std.proofs.Common.{arith}
use Rattle.pb_linear.specs.Sizes.{leasts_of}
use Rattle.pb_region.specs.Dims.{HasNoNegative}
use Rattle.pb_region.proofs.DimLemmas.{all_end, all_more}
use Rattle.pb_region.proofs.dims.negative_side.Goals as goal

pub loop-number-preserved : goal.loop-number-preserved
loop-number-preserved c =
    all_more (HasNoNegative (leasts_of c.args.ranges.now)) c.args.matrices.now c.loop-number.number c.index-matrices-number.result c.loop-number.invariant (omega arith) c.index-matrices-number.is c.in_default.ensures

pub returns : goal.returns
returns c = record { each = all_end (HasNoNegative (leasts_of c.args.ranges.now)) c.args.matrices.now c.loop-number.number c.loop-number.invariant (omega arith) }
