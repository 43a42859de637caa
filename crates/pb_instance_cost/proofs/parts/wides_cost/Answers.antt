use Rattle.std.proofs.Common.{ap, length, arith}
use Rattle.std.proofs.lemmas.List.{length-map}
use Rattle.pb_linear.specs.Sizes.{sizes_of}
use Rattle.pb_program.specs.Transforms.{TransformValue}
use Rattle.pb_program.specs.Trees.{bare_rule, bare_transform}
use Rattle.pb_instance_cost.specs.Parts.{wide_shown}
use Rattle.pb_instance_cost.proofs.ListLemmas.{numbered_sum, numbered_whole}
use Rattle.pb_instance_cost.proofs.parts.wides_cost.Goals as goal

pub loop-k-preserved : goal.loop-k-preserved
loop-k-preserved c =
    let t = bare_transform c.args.transform.now in
    let count = ap (λ (t : TransformValue). length t.rules) c.transform.view_is in
    numbered_sum (wide_shown t (sizes_of c.args.s.now) c.args.parts.now) t.rules c.loop-k.k c.loop-k.cost c.loop-k.invariant c.in_ok-wide_cost.field-0 c.in_ok-cost.cost
    (omega (arith, c.loop-k-test.true, c.len-k-end.ensures, c.requires.few, count, length-map c.args.transform.now.rules bare_rule)) c.in_ok-wide_cost.ensures c.in_ok-cost.ensures

pub returns : goal.returns
returns c =
    let t = bare_transform c.args.transform.now in
    let count = ap (λ (t : TransformValue). length t.rules) c.transform.view_is in
    numbered_whole (wide_shown t (sizes_of c.args.s.now) c.args.parts.now) t.rules c.loop-k.k c.loop-k.cost c.loop-k.invariant
    (omega (arith, c.loop-k-test.false, c.len-k-end.ensures, c.requires.few, count, length-map c.args.transform.now.rules bare_rule))
