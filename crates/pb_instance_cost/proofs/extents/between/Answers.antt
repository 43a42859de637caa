use Rattle.pb_linear.specs.Sizes.{sizes_of}
use Rattle.pb_instance_cost.proofs.ExtentLemmas.{between_is}
use Rattle.pb_instance_cost.proofs.extents.between.Goals as goal

pub returns : goal.returns
returns c = λ x y. between_is (sizes_of c.args.s.now) c.args.high.now c.args.low.now c.new-to.result c.new-from.result c.new-to.ensures c.new-from.ensures x y
