use Rattle.pb_run_trials.specs.Sums.{plan_of}
use Rattle.pb_run_trials.proofs.boards.said.Given as goal

abbrev pub ghosts-steps : goal.ghosts-steps
ghosts-steps a = record { plan = plan_of a.work.now }
