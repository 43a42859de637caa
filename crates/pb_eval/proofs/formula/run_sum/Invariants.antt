use Rattle.pb_eval.proofs.formula.run_sum.Given as goal

abbrev pub ghosts-sum_at : goal.ghosts-sum_at
ghosts-sum_at g a = record { turn = g.C.CellReader.turn a.port.now }
