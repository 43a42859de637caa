use Rattle.std.proofs.Common.{sym, subst, arith}
use Rattle.std.proofs.lemmas.Int.{ints}
use Rattle.pb_linear.specs.Form.{numbers, value}
use Rattle.pb_linear.specs.Most.{Most}
use Rattle.pb_linear.specs.Sizes.{leasts_of, sizes_of}
use Rattle.pb_region.proofs.DimLemmas.{negative_somewhere, never_negative}
use Rattle.pb_region.proofs.dims.negative_sizes.Goals as goal

pub returns-then-most-gt0 : goal.returns-then-most-gt0
returns-then-most-gt0 c =
    let leasts = leasts_of c.args.ranges.now in
    let most = subst (λ s. Most (value c.negative.result) leasts c.most-most.result.0 (sizes_of s)) (sym c.held.ensures.same) c.most-most.ensures.most in
    negative_somewhere leasts (numbers c.args.side.now) c.negative.result c.most-most.result.0 c.held.result c.negative.ensures.numbers most c.held.ensures.held (omega (arith, ints))

pub returns-else-most-gt0 : goal.returns-else-most-gt0
returns-else-most-gt0 c =
    never_negative (leasts_of c.args.ranges.now) (numbers c.args.side.now) c.negative.result _ c.most-most.result.1 c.negative.ensures.numbers c.most-most.ensures.most (omega (arith, ints))
