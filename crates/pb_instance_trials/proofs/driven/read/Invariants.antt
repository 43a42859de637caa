use Rattle.std.proofs.Common.{◌≡◌}
use Rattle.pb_instance_trials.proofs.driven.read.Given as goal

abbrev pub invariant-loop-cell : goal.invariant-loop-cell
invariant-loop-cell g l = l.job ≡ l.initial.job
