use Rattle.pb_unroll.specs.Handed.{run_plan}
use Rattle.pb_instance_trials.proofs.driven.run_by_hand.Given as goal

abbrev pub ghosts-by_one_hand : goal.ghosts-by_one_hand
ghosts-by_one_hand a = record { plan = run_plan a.work.now }
