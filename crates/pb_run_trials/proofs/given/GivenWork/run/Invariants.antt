use Rattle.std.proofs.Common.{◌≡◌, ◌-◌}
use Rattle.pb_taskgraph.specs.Turns.{after_some}
use Rattle.pb_run_trials.proofs.given.GivenWork.run.Given as goal

abbrev pub invariant-loop-cell : goal.invariant-loop-cell
invariant-loop-cell g l = g.C.CellReader.turn l.port ≡ after_some (l.cell - l.first) (g.C.CellReader.turn l.initial.port)
