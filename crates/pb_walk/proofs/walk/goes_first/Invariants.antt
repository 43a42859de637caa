use Rattle.pb_walk.specs.Cursors.{steps_of}
use Rattle.pb_walk.specs.Stretches.{GoesFirst}
use Rattle.pb_walk.proofs.walk.goes_first.Given as goal

abbrev pub invariant-loop-j : goal.invariant-loop-j
invariant-loop-j l = GoesFirst (steps_of l.course) l.cursors l.k l.j l.last
