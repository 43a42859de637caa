use Rattle.std.proofs.Common.{length}
use Rattle.pb_layers.specs.Walks.{IsWalk}
use Rattle.pb_layers.proofs.walk.walk_on.Given as goal

abbrev pub invariant-loop-steps : goal.invariant-loop-steps
invariant-loop-steps l = IsWalk (length l.fn.walk.met.items) l.walk.met.items l.walk.way.items l.walk.finished.items
