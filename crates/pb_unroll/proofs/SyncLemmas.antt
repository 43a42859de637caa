-- A run may be shared by threads.
use denote.RattleType.{RattleType}
use denote.Builtin.{One}
use denote.Hole.{as_row}
use denote.Ref.{NamedLft}
use denote.Param.Send.{IsSync, shr_sync, view_sync, plain_sync}
use denote.Param.SendFields.{as_row_sync, declared_sync}
use denote.Struct.Field.{shr_ref_field, u32-field, u64-field}
use Rattle.std.proofs.Crossing.{Vec-sync}
use Rattle.pb_check.proofs.orders.Analysis.TheSendSync as analysis
use Rattle.pb_check.specs.contracts.accepted.Accepted as Accepted
use Rattle.pb_check.specs.contracts.accepted.Accepted.TheInside as Inside-accepted
use Rattle.pb_jobs.proofs.room.Rooms.TheSendSync as rooms
use Rattle.pb_linear.proofs.sizes.Sizes.TheSendSync as sizes
use Rattle.pb_matrix.proofs.matrix.Matrix.TheSendSync as matrix
use Rattle.pb_program.proofs.SyncLemmas.{program_sync, transform_sync}
use Rattle.pb_program.proofs.config.Config.TheSendSync as config
use Rattle.pb_run_work.proofs.drawn.Pieces.TheSendSync as pieces
use Rattle.pb_run_work.proofs.drawn.Sight.TheSendSync as sight
use Rattle.pb_run_work.proofs.Handed.{unrolled_sync}
use Rattle.pb_taskgraph.proofs.graph.TaskGraph.TheSendSync as graph
use Rattle.pb_values.proofs.view.View.TheSendSync as view
use Rattle.pb_run_work.specs.contracts.run.Run.{the_row}
use Rattle.pb_run_work.specs.contracts.run.Run.TheInside as inside

-- what is borrowed may be, if what it refers to may be
borrowed : (κ : NamedLft) (R : RattleType) (one : One R.mir) → IsSync R → IsSync (as_row (shr_ref_field κ R one))
borrowed κ R one s = as_row_sync (shr_ref_field κ R one) (shr_sync _ _ R s)

accepted_sync : IsSync Accepted.the_row
accepted_sync = view_sync Inside-accepted.the_row _ _ _ _ (declared_sync Inside-accepted.the_type (program_sync, (Vec-sync _ analysis.the_sync, tt)))

pub run_sync : (κ : NamedLft) → IsSync (the_row κ)
run_sync κ = view_sync (inside.the_row κ) _ _ _ _ (declared_sync (inside.the_type κ) (
  borrowed κ _ tt accepted_sync,
  (
    borrowed κ _ tt config.the_sync,
    (
      as_row_sync u64-field (plain_sync _ _ _ _ _),
      (
        as_row_sync u32-field (plain_sync _ _ _ _ _),
        (
          as_row_sync u32-field (plain_sync _ _ _ _ _),
          (
            borrowed κ _ tt transform_sync,
            (
              sizes.the_sync,
              (
                Vec-sync _ matrix.the_sync,
                (Vec-sync _ view.the_sync, (unrolled_sync, (graph.the_sync, (Vec-sync _ sight.the_sync, (Vec-sync _ pieces.the_sync, (rooms.the_sync, tt)))))),
              ),
            ),
          ),
        ),
      ),
    ),
  ),
))
