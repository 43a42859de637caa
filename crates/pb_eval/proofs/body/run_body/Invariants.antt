use Rattle.pb_eval.proofs.body.run_body.Given as goal

abbrev pub ghosts-run_rule : goal.ghosts-run_rule
ghosts-run_rule g a = record { turn = g.C.CellReader.turn a.port.now }
