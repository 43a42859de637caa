use Rattle.pb_plan.proofs.MadeLemmas.{made_by, made_cell, made_once, made_rule}
use Rattle.pb_plan.proofs.place_laws.each_cell_is_made_once.Goals as goal

pub returns-clause-some : goal.returns-clause-some
returns-clause-some c = λ config number t a sizes grain i valid. made_by config number t a sizes grain i valid

pub returns-clause-one : goal.returns-clause-one
returns-clause-one c = λ config number t a sizes grain i. made_once config number t a sizes grain i

pub returns-clause-only : goal.returns-clause-only
returns-clause-only c = λ config number t a sizes grain i. made_cell config number t a sizes grain i

pub returns-clause-rule : goal.returns-clause-rule
returns-clause-rule c = λ config number t a sizes grain i. made_rule config number t a sizes grain i
