use denote.Exit.{no}
use mir.Syntax.{named}
use denote.Param.Send.{arg_sync, param_sync}
use Rattle.pb_unroll.proofs.SyncLemmas.{run_sync}
use Rattle.pb_top.proofs.pools.run_pool.Goals as goal

pub run_serial-requires-sync-W : goal.run_serial-requires-sync-W
run_serial-requires-sync-W g c κs = param_sync 0 _ (arg_sync _ no _ (run_sync (record { mir = named 1; lft = κs.1.0 })))

pub run_locked-requires-sync-W : goal.run_locked-requires-sync-W
run_locked-requires-sync-W g c κs within = param_sync 1 _ (arg_sync _ no _ (run_sync (record { mir = named 4; lft = κs.1.1.1.1.0 })))

pub run_steal-requires-sync-W : goal.run_steal-requires-sync-W
run_steal-requires-sync-W g c κs within = param_sync 1 _ (arg_sync _ no _ (run_sync (record { mir = named 4; lft = κs.1.1.1.1.0 })))
