use Rattle.pb_eval.proofs.formula.run_formula.Given as goal

abbrev pub ghosts-outcome_by : goal.ghosts-outcome_by
ghosts-outcome_by g a = record { turn = g.C.CellReader.turn a.port.now }
