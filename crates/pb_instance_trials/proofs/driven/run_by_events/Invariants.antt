use Rattle.pb_unroll.specs.Handed.{run_plan}
use Rattle.pb_instance_trials.proofs.driven.run_by_events.Given as goal

abbrev pub ghosts-by_events : goal.ghosts-by_events
ghosts-by_events a = record { plan = run_plan a.work.now }
