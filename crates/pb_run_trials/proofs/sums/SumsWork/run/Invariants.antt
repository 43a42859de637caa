use Rattle.std.proofs.Common.{◌≡◌}
use Rattle.pb_taskgraph.specs.Turns.{after_some}
use Rattle.pb_run_trials.proofs.sums.SumsWork.run.Given as goal

abbrev pub invariant-loop-k : goal.invariant-loop-k
invariant-loop-k g l = g.C.CellReader.turn l.port ≡ after_some l.k (g.C.CellReader.turn l.initial.port)
