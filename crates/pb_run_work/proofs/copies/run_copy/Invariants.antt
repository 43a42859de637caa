use Rattle.std.proofs.Common.{◌≡◌, [], length}
use Rattle.pb_walk.specs.Walks.{walk_of}
use Rattle.pb_jobs.proofs.StepLemmas.{IsAmong}
use Rattle.pb_run_work.proofs.copies.run_copy.Given as goal

abbrev pub invariant-loop-stop : goal.invariant-loop-stop
invariant-loop-stop g l = record {
  among : IsAmong (walk_of [] l.fn.parts) (g.C.CellReader.turn l.fn.port) (g.C.CellReader.turn l.port) l.walk.left;
  room : l.walk.room ≡ l.fn.walk.room;
}

abbrev pub decreases-loop-stop : goal.decreases-loop-stop
decreases-loop-stop g l = length l.walk.left
