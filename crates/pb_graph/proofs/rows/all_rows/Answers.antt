use Rattle.std.proofs.Common.{subst}
use Rattle.pb_linear.specs.Sizes.{leasts_of}
use Rattle.pb_graph.specs.Cached.{AreRowsOf}
use Rattle.pb_graph.proofs.CachedLemmas.{rows_next}
use Rattle.pb_graph.proofs.rows.all_rows.Goals as goal

pub loop-read-preserved : goal.loop-read-preserved
loop-read-preserved c =
    let leasts = leasts_of c.args.ranges.now in
    let is = subst (λ r. AreRowsOf leasts c.args.nodes.now r c.in_ok-rows_of.field-0) c.read-item.is c.in_ok-rows_of.ensures.found in
    rows_next leasts c.args.nodes.now c.args.reads.now c.loop-read.rows.items _ c.loop-read.read-index c.read-item.result c.in_ok-rows_of.field-0 c.loop-read-test.true c.loop-read.invariant is c.in_ok-push.ensures.items
