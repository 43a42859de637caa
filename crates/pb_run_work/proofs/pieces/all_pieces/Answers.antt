use Rattle.std.proofs.Common.{subst}
use Rattle.pb_plan.proofs.TaskLemmas.{zip_next}
use Rattle.pb_jobs.proofs.ListLemmas.{of_item}
use Rattle.pb_run_work.specs.Holding.{CanBeCut}
use Rattle.pb_run_work.specs.Running.{ArePieces}
use Rattle.pb_run_work.proofs.HoldLemmas.{next_room}
use Rattle.pb_run_work.proofs.pieces.all_pieces.Goals as goal

pub step_rooms-requires-clause-can : goal.step_rooms-requires-clause-can
step_rooms-requires-clause-can c = of_item (CanBeCut c.args.a.now c.args.instances.now) c.args.steps.now c.loop-step.step-index c.step-item.result c.loop-step-test.true c.step-item.is c.requires

pub loop-step-preserved : goal.loop-step-preserved
loop-step-preserved c = record {
  pieces = zip_next (ArePieces c.args.a.now c.args.instances.now) c.args.steps.now c.loop-step.step-index c.step-item.result c.loop-step.all.items c.push.new.self.items c.in_ok-pieces.pieces c.loop-step-test.true c.loop-step.invariant.pieces
      (subst (λ x. ArePieces c.args.a.now c.args.instances.now x c.in_ok-pieces.pieces) c.step-item.is c.in_ok-pieces.ensures) c.in_ok-push.ensures.items;
  rooms = next_room c.args.a.now c.args.instances.now c.args.steps.now c.loop-step.step-index c.step-item.result c.loop-step.rooms c.step_rooms.result c.greater-rooms.result c.loop-step-test.true c.step-item.is c.greater-rooms.ensures.first c.greater-rooms.ensures.second c.step_rooms.ensures c.loop-step.invariant.rooms;
}
