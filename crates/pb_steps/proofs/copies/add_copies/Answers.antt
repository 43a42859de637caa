use Rattle.std.proofs.Common.{refl, ap, subst, length, arith}
use Rattle.std.proofs.lemmas.List.{length-map}
use Rattle.pb_plan.specs.Boxes.{whole_box}
use Rattle.pb_counts.specs.Handed.{copies_of}
use Rattle.pb_steps.specs.Stands.{Appends}
use Rattle.pb_steps.proofs.CopyLemmas.{next_copy}
use Rattle.pb_steps.proofs.ListLemmas.{take_end}
use Rattle.pb_steps.proofs.copies.add_copies.Goals as goal

pub loop-k-preserved : goal.loop-k-preserved
loop-k-preserved c = λ p found instances i j views at nodes parts outs.
    next_copy i j c.args.names.now p found instances c.args.nodes.now c.args.parts.now c.args.outs.now views nodes parts outs c.loop-k.k _ _ c.loop-k-test.true refl c.in_ok-common_parts.field-0.items c.in_ok-common_parts.ensures c.named.result c.named.ensures.seat c.args.steps.now.items c.loop-k.steps.items _
    (c.loop-k.invariant p found instances i j views at nodes parts outs) (c.in_ok-add_copy.ensures p found instances i j at)

pub returns : goal.returns
returns c = λ p found instances i j views at nodes parts outs.
    subst (λ vs. Appends p found instances c.args.steps.now.items c.loop-k.steps.items (copies_of i j c.args.names.now 0 vs))
    (take_end views c.loop-k.k (omega (arith, c.loop-k-test.false, ap length outs, length-map views (whole_box i.transform.matrices i.sizes))))
    (c.loop-k.invariant p found instances i j views at nodes parts outs)
