use Rattle.pb_graph.proofs.CachedLemmas.{alike}
use Rattle.pb_graph.proofs.alike.are_alike.Goals as goal

pub returns-then-are_alike_on : goal.returns-then-are_alike_on
returns-then-are_alike_on c h =
    alike c.args.read.now c.args.axis c.args.a.now c.args.b.now c.low-low.result.now c.high-high.result.now c.low-low.ensures.is c.high-high.ensures.is (c.are_alike_on.ensures c.if-are_alike_on.true) (c.are_alike_on-then-are_alike_on.ensures h)
