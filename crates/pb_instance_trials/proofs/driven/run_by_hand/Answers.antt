use denote.Exit.{no}
use mir.Syntax.{named}
use denote.Param.Send.{arg_sync, param_sync}
use Rattle.pb_unroll.proofs.SyncLemmas.{run_sync}
use Rattle.pb_instance_trials.proofs.driven.run_by_hand.Goals as goal

pub by_one_hand-requires-sync-W : goal.by_one_hand-requires-sync-W
by_one_hand-requires-sync-W c κs = param_sync 0 _ (arg_sync _ no _ (run_sync (record { mir = named 1; lft = κs.1.0 })))
