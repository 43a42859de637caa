use Rattle.pb_walk.specs.Cursors.{IsBest}
use Rattle.pb_walk.proofs.walk.first_cursor.Given as goal

abbrev pub invariant-loop-k : goal.invariant-loop-k
invariant-loop-k l = IsBest l.course l.cursors l.k l.found
