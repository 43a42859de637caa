use Rattle.std.proofs.Common.{arith}
use Rattle.pb_linear.specs.Sizes.{leasts_of}
use Rattle.pb_linear.proofs.SizesLemmas.{in_range_top}
use Rattle.pb_counts.proofs.FittingLemmas.{range_exact}
use Rattle.std.proofs.Common.{arith}
use Rattle.pb_counts.proofs.FittingLemmas.{range_exact}
use Rattle.pb_counts.proofs.fitting.are_in_range.Goals as goal

pub returns-clause-top : goal.returns-clause-top
returns-clause-top c = λ h. in_range_top (leasts_of c.args.ranges) c.args.s (c.hold.ensures.0 h).1

pub returns-clause-exact : goal.returns-clause-exact
returns-clause-exact c = range_exact c.args.ranges.count c.args.s.count c.args.ranges.least c.args.s.of c.hold.result c.requires.few c.args.s.few (search (arith, c.well_formed)) (search (arith, c.well_formed)) c.hold.ensures
