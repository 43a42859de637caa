use Rattle.std.proofs.Common.{◌≡◌, length}
use Rattle.pb_walk.specs.Walks.{walk_of}
use Rattle.pb_jobs.specs.Rooms.{rooms_of}
use Rattle.pb_jobs.proofs.StepLemmas.{IsAmong}
use Rattle.pb_jobs.proofs.instance.Instance.run_block.Given as goal

abbrev pub invariant-loop-stretch : goal.invariant-loop-stretch
invariant-loop-stretch g l = record {
  among : IsAmong (walk_of l.fn.steps l.fn.parts) (g.C.CellReader.turn l.fn.port) (g.C.CellReader.turn l.port) l.scratch.walk.left;
  room : rooms_of l.scratch ≡ rooms_of l.fn.scratch;
}

abbrev pub decreases-loop-stretch : goal.decreases-loop-stretch
decreases-loop-stretch g l = length l.scratch.walk.left
