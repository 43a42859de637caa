use denote.Exit.{no}
use mir.Syntax.{named}
use denote.Param.Send.{arg_sync, param_sync}
use Rattle.pb_unroll.proofs.SyncLemmas.{run_sync}
use Rattle.pb_instance_trials.proofs.driven.run_by_events.Goals as goal

pub by_events-requires-sync-W : goal.by_events-requires-sync-W
by_events-requires-sync-W c κs = param_sync 0 _ (arg_sync _ no _ (run_sync (record { mir = named 1; lft = κs.1.0 })))
