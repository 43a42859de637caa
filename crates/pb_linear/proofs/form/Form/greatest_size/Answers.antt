use Rattle.std.proofs.Common.{arith}
use Rattle.std.proofs.lemmas.Int.{ints}
use Rattle.pb_linear.specs.Form.{numbers}
use Rattle.pb_linear.specs.Numbers.{coefficient, part_of}
use Rattle.pb_linear.proofs.Parts.{part-steps}
use Rattle.pb_linear.proofs.Periods.{far_is_first, near_is_first}
use Rattle.pb_linear.proofs.form.Form.greatest_size.Goals as goal

pub returns-then-part : goal.returns-then-part
returns-then-part c =
    let n = numbers c.args.self.now in
    let i = c.args.i in
    let near = rw c.min.ensures at c.first_greatest-near.ensures in
    let far = rw c.max.ensures at c.first_greatest-far.ensures in
    far_is_first (part_of n i) _ (part-steps (coefficient n.whole i) (coefficient n.half i) (coefficient n.third i) (coefficient n.quarter i)) _ _ _ _ near far (omega (arith, ints))

pub returns-else-part : goal.returns-else-part
returns-else-part c =
    let n = numbers c.args.self.now in
    let i = c.args.i in
    let near = rw c.min.ensures at c.first_greatest-near.ensures in
    let far = rw c.max.ensures at c.first_greatest-far.ensures in
    near_is_first (part_of n i) _ (part-steps (coefficient n.whole i) (coefficient n.half i) (coefficient n.third i) (coefficient n.quarter i)) _ _ _ _ near far (omega (arith, ints))
