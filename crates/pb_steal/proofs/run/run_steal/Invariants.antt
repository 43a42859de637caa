use Rattle.pb_steal.proofs.run.run_steal.Given as goal

abbrev pub ghosts-run_named : goal.ghosts-run_named
ghosts-run_named g a = record { plan = g.W.Work.plan a.work.now }
