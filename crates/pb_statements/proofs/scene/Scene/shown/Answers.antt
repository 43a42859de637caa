use Rattle.pb_statements.proofs.scene.Scene.shown.Goals as goal

pub returns-in-Output-clause-shown : goal.returns-in-Output-clause-shown
returns-in-Output-clause-shown g c = c.output.ensures.shown g.N.NamesTurn.turn
