use Rattle.std.proofs.Common.{◌∙◌, false, arith}
use Rattle.pb_graph.proofs.CachedLemmas.{both_end, both_pushed}
use Rattle.pb_graph.proofs.rows.both.Goals as goal

pub loop-number-preserved : goal.loop-number-preserved
loop-number-preserved c =
    let n = c.loop-number.number in
    both_pushed c.args.x.now c.args.y.now n false false (omega arith) (omega arith) c.loop-number.row.items _ c.pass_both.result c.loop-number.invariant c.in_ok-push.ensures.items c.pass_both.ensures

pub returns-clause-found : goal.returns-clause-found
returns-clause-found c = c.loop-number.invariant ∙ both_end c.args.x.now c.args.y.now c.loop-number.number (omega arith)
