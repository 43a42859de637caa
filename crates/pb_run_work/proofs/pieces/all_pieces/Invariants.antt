use Rattle.std.proofs.Common.{take}
use Rattle.std.specs.List.{All, AllZip}
use Rattle.pb_run_work.specs.Running.{ArePieces, HasRoomForStep}
use Rattle.pb_run_work.proofs.pieces.all_pieces.Given as goal

abbrev pub invariant-loop-step : goal.invariant-loop-step
invariant-loop-step l = record {
  pieces : AllZip (ArePieces l.a l.instances) (take l.step-index l.steps) l.all.items;
  rooms : All (HasRoomForStep l.a l.instances l.rooms) (take l.step-index l.steps);
}
