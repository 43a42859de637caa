use Rattle.std.proofs.Common.{arith, rules}
use Rattle.pb_program.specs.Trees.{bare_transform}
use Rattle.pb_check.proofs.CutLemmas.{fails_at, next_nodes}
use Rattle.pb_check.proofs.cuts.transform_nodes.Goals as goal

pub loop-k-preserved : goal.loop-k-preserved
loop-k-preserved c =
    next_nodes (bare_transform c.args.transform.now) c.loop-k.k c.made_number-matrix.result c.loop-k.nodes.items c.add_nodes.new.nodes.items c.in_ok-segments.segments.items c.loop-k.invariant
    (omega (arith, c.loop-k-test.true, c.count_made-k-end.ensures)) c.made_number-matrix.ensures.number c.in_ok-segments.ensures.found c.in_ok-add_nodes.ensures.found

pub returns-in_err-segments-clause-refused : goal.returns-in_err-segments-clause-refused
returns-in_err-segments-clause-refused c =
    let fails =
    fails_at (bare_transform c.args.transform.now) c.loop-k.k c.made_number-matrix.result c.args.t c.loop-k.nodes.items c.in_err-segments.field-0.0 c.loop-k.invariant (omega (arith, c.loop-k-test.true, c.count_made-k-end.ensures))
    c.made_number-matrix.ensures.number c.in_err-segments.ensures.refused in
    search rules
