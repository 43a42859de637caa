use Rattle.pb_run_trials.specs.Given.{given_plan}
use Rattle.pb_run_trials.proofs.cells.by_hands.Given as goal

abbrev pub ghosts-two_hands : goal.ghosts-two_hands
ghosts-two_hands a = record { plan = given_plan a.work.now }

abbrev pub ghosts-counts : goal.ghosts-counts
ghosts-counts a = record { plan = given_plan a.work.now }
