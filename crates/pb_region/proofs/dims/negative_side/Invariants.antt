use Rattle.std.proofs.Common.{take}
use Rattle.std.specs.List.{All}
use Rattle.pb_linear.specs.Sizes.{leasts_of}
use Rattle.pb_region.specs.Dims.{HasNoNegative}
use Rattle.pb_region.proofs.dims.negative_side.Given as goal

abbrev pub invariant-loop-number : goal.invariant-loop-number
invariant-loop-number l = All (HasNoNegative (leasts_of l.ranges)) (take l.number l.matrices)
