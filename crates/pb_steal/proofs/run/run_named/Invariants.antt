use Rattle.pb_steal.proofs.run.run_named.Given as goal

abbrev pub ghosts-run_cells : goal.ghosts-run_cells
ghosts-run_cells g a = record { table = a.cells }
