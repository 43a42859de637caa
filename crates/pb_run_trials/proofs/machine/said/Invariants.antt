use Rattle.pb_run_trials.specs.Sums.{plan_of}
use Rattle.pb_run_trials.proofs.machine.said.Given as goal

abbrev pub ghosts-run : goal.ghosts-run
ghosts-run a = record { plan = plan_of a.work.now }
