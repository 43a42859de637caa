use Rattle.pb_check.proofs.FindLemmas.{named_nowhere, none_more}
use Rattle.pb_check.proofs.accepted.find_named.Goals as goal

pub loop-t-preserved : goal.loop-t-preserved
loop-t-preserved c =
    none_more c.args.transforms.now c.args.name.now c.loop-t.t c.index-transforms-t.result c.loop-t.invariant c.loop-t-test.true c.index-transforms-t.is (λ named. let is = c.is_named.ensures.1 named in let isnt = c.if-is_named.false in cc)

pub returns-clause-none : goal.returns-clause-none
returns-clause-none c = named_nowhere c.args.transforms.now c.args.name.now c.loop-t.t c.loop-t.invariant c.loop-t-test.false
