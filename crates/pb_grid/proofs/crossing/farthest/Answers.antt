use Rattle.pb_linear.specs.Sizes.{leasts_of}
use Rattle.pb_grid.proofs.CutLemmas.{farthest_is}
use Rattle.pb_grid.proofs.crossing.farthest.Goals as goal

pub returns : goal.returns
returns c = farthest_is (leasts_of c.args.ranges.now) c.args.high.now c.args.low.now c.difference.result _ c.most.result.1 _ c.difference.ensures c.most.ensures.most c.held.ensures.same c.held.ensures.held
