use Rattle.std.proofs.Common.{arith}
use Rattle.std.proofs.lemmas.Int.{ints}
use Rattle.pb_linear.specs.Form.{numbers}
use Rattle.pb_linear.proofs.Parts.{most_of}
use Rattle.pb_linear.proofs.form.Form.most.Goals as goal

pub returns-clause-most : goal.returns-clause-most
returns-clause-most c =
    let s = c.greatest_sizes-sizes.result in
    let r = c.args.ranges.now in
    most_of (numbers c.args.self.now) r.count s.count r.least s.of _ (omega arith) (omega arith) (omega arith) (omega arith) s.zero_past_count c.greatest_sizes-sizes.ensures.greatest (omega (arith, ints, c.at.ensures.value))
