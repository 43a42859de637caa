use Rattle.std.proofs.Common.{◌∙◌, sym, arith}
use Rattle.pb_core.proofs.WholeLemmas.{row-hole, row-whole}
use Rattle.pb_core.proofs.wholes.row_written.Goals as goal

pub returns-then-not-is_written : goal.returns-then-not-is_written
returns-then-not-is_written c = row-hole c.args.written.now c.args.view.now c.loop-x.x c.args.y c.place.result c.loop-x-test.true c.place.ensures (sym c.is_written.ensures ∙ c.if-not-is_written.true)

pub returns : goal.returns
returns c = row-whole c.args.written.now c.args.view.now c.args.y (λ k below. c.loop-x.invariant k (omega arith))
