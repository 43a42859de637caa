use Rattle.pb_locked.proofs.pool.run_locked.Given as goal

abbrev pub ghosts-run_named : goal.ghosts-run_named
ghosts-run_named g a = record { plan = g.W.Work.plan a.work.now }
