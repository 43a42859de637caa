use Rattle.std.proofs.Common.{subst, sym}
use Rattle.pb_graph.specs.Cached.{AreFirsts, part}
use Rattle.pb_graph.proofs.rows.rows_of.Goals as goal

pub axis_rows-requires-clause-firsts : goal.axis_rows-requires-clause-firsts
axis_rows-requires-clause-firsts c = subst (AreFirsts 0 (part c.args.nodes.now c.span_of-first.result.0 c.span_of-first.result.1)) (sym c.deref.ensures.value) c.in_ok-firsts_x.ensures.found

pub axis_rows-requires-2-clause-firsts : goal.axis_rows-requires-2-clause-firsts
axis_rows-requires-2-clause-firsts c = subst (AreFirsts 1 (part c.args.nodes.now c.span_of-first.result.0 c.span_of-first.result.1)) (sym c.deref-2.ensures.value) c.in_ok-firsts_y.ensures.found
