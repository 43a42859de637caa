use Rattle.std.proofs.Common.{ap, arith}
use Rattle.std.proofs.lemmas.Bool.Decides.{nat_tests}
use Rattle.pb_linear.specs.Sizes.{leasts_of}
use Rattle.pb_graph.proofs.CachedLemmas.{rows_read, rows_room}
use Rattle.pb_graph.proofs.SourceLemmas.{own_is, own_kept}
use Rattle.pb_graph.proofs.readers.group_of.Goals as goal

pub bounds-rows-number : goal.bounds-rows-number
bounds-rows-number c = omega (arith, rows_room (leasts_of c.args.ranges.now) c.args.nodes.now c.args.reads.now c.args.rows.now c.requires.rows)

pub touched_row-requires-clause-rows : goal.touched_row-requires-clause-rows
touched_row-requires-clause-rows c =
    rows_read (leasts_of c.args.ranges.now) c.args.nodes.now c.args.reads.now c.args.rows.now c.loop-number.number c.index-reads-number.result c.index-rows-number.result c.requires.rows c.loop-number-test.true c.index-reads-number.is c.index-rows-number.is

pub loop-number-preserved : goal.loop-number-preserved
loop-number-preserved c =
    let leasts = leasts_of c.args.ranges.now in
    let nodes = c.args.nodes.now in
    let area = c.args.area.now in
    let r = c.index-reads-number.result in
    let known = c.index-rows-number.result in
    let rows = rows_read leasts nodes c.args.reads.now c.args.rows.now c.loop-number.number r known c.requires.rows c.loop-number-test.true c.index-reads-number.is c.index-rows-number.is in
    let own = own_is leasts nodes area r known.first known.end rows.span _ c.seen_at.ensures (ap (λ w. w.first) c.known.view_is) c.in_ok-touched_row.ensures.found in
    own_kept leasts nodes area c.args.reads.now c.args.rule c.loop-number.number r c.loop-number-test.true c.index-reads-number.is c.loop-number.own.items c.loop-number.invariant _ c.push.new.self.items (grind (arith, nat_tests, c.if-read-rule.false)) own c.in_ok-push.ensures.items
