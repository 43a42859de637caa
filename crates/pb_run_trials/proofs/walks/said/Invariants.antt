use Rattle.std.proofs.Common.{◌≡◌}
use Rattle.pb_run_trials.proofs.walks.said.Given as goal

abbrev pub invariant-loop : goal.invariant-loop
invariant-loop l = l.walk.room ≡ l.initial.walk.room
