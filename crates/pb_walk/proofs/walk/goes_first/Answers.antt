use Rattle.pb_walk.specs.Cursors.{steps_of}
use Rattle.pb_walk.proofs.StretchLemmas.{before_more}
use Rattle.pb_walk.proofs.walk.goes_first.Goals as goal

pub loop-j-preserved : goal.loop-j-preserved
loop-j-preserved c = before_more (steps_of c.args.course) c.args.cursors.now c.args.k c.loop-j.j c.args.last.now c.loop-j.invariant (c.goes_before.ensures c.if-not-goes_before.false)
