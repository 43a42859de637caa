use Rattle.pb_eval.proofs.formula.run_terms.Given as goal

abbrev pub ghosts-outcome_of : goal.ghosts-outcome_of
ghosts-outcome_of g a = record { turn = g.C.CellReader.turn a.port.now }
