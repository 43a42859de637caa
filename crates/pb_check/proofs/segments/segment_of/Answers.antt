use Rattle.pb_linear.specs.Sizes.{sizes_of}
use Rattle.pb_check.specs.Ranked.{cell}
use Rattle.pb_check.proofs.PlacedLemmas.{held_here, held_more, held_nowhere}
use Rattle.pb_check.proofs.segments.segment_of.Goals as goal

pub returns-then-is_in-clause-found : goal.returns-then-is_in-clause-found
returns-then-is_in-clause-found c =
    held_here c.args.nodes.now (sizes_of c.args.s.now) (cell c.args.matrix c.args.x c.args.y) c.loop-u.u c.index-nodes-u.result c.loop-u-test.true c.index-nodes-u.is (c.is_in.ensures.0 c.if-is_in.true)

pub loop-u-preserved : goal.loop-u-preserved
loop-u-preserved c =
    held_more c.args.nodes.now (sizes_of c.args.s.now) (cell c.args.matrix c.args.x c.args.y) c.loop-u.u c.index-nodes-u.result c.loop-u.invariant c.loop-u-test.true c.index-nodes-u.is (λ h. let is = c.is_in.ensures.1 h in let isnt = c.if-is_in.false in cc)

pub returns-clause-none : goal.returns-clause-none
returns-clause-none c = held_nowhere c.args.nodes.now (sizes_of c.args.s.now) (cell c.args.matrix c.args.x c.args.y) c.loop-u.u c.loop-u.invariant c.loop-u-test.false
