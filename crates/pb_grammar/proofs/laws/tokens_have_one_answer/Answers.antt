use Rattle.pb_grammar.proofs.Exact.{some_answer, one_place, one_item, not_both, no_bad_program, no_large_program}
use Rattle.pb_grammar.proofs.laws.tokens_have_one_answer.Goals as goal

pub returns-clause-some : goal.returns-clause-some
returns-clause-some c = some_answer

pub returns-clause-one_place : goal.returns-clause-one_place
returns-clause-one_place c = one_place

pub returns-clause-one_item : goal.returns-clause-one_item
returns-clause-one_item c = one_item

pub returns-clause-not_both : goal.returns-clause-not_both
returns-clause-not_both c = not_both

pub returns-clause-no_bad_program : goal.returns-clause-no_bad_program
returns-clause-no_bad_program c = no_bad_program

pub returns-clause-no_large_program : goal.returns-clause-no_large_program
returns-clause-no_large_program c = no_large_program
