use Rattle.std.proofs.Common.{arith, below_more}
use Rattle.pb_core.proofs.WholeLemmas.{view-empty, view-hole, view-whole}
use Rattle.pb_core.proofs.wholes.view_written.Goals as goal

pub returns-then-view-eq0 : goal.returns-then-view-eq0
returns-then-view-eq0 c = view-empty c.args.written.now c.args.view.now c.if-view-eq0.true

pub returns-then-not-row_written : goal.returns-then-not-row_written
returns-then-not-row_written c = view-hole c.args.written.now c.args.view.now c.loop-y.y c.loop-y-test.true c.if-not-row_written.ensures

pub loop-y-preserved : goal.loop-y-preserved
loop-y-preserved c = below_more _ _ c.loop-y.invariant c.if-not-row_written.ensures

pub returns : goal.returns
returns c = view-whole c.args.written.now c.args.view.now (λ k below. c.loop-y.invariant k (omega arith))
