use Rattle.std.proofs.Common.{refl, arith}
use Rattle.std.proofs.lemmas.List.{length-take}
use Rattle.pb_region.proofs.dims.held.Goals as goal

pub returns : goal.returns
returns c = record { same = refl; held = record { counted = omega (arith, length-take c.args.ranges.count c.args.ranges.least); full = omega arith } }
