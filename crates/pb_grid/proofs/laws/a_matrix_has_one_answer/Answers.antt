use Rattle.std.proofs.Common.{◌∙◌, sym}
use Rattle.pb_grid.proofs.AnswerLemmas.{not_refused, one_refusal, some_answer}
use Rattle.pb_grid.proofs.laws.a_matrix_has_one_answer.Goals as goal

pub returns-clause-some : goal.returns-clause-some
returns-clause-some c = λ ranges boxes width height ok. some_answer ranges ok boxes width height

pub returns-clause-one_grid : goal.returns-clause-one_grid
returns-clause-one_grid c = λ m ss others h k. h.segments ∙ sym k.segments

pub returns-clause-one_refusal : goal.returns-clause-one_refusal
returns-clause-one_refusal c = one_refusal

pub returns-clause-not_both : goal.returns-clause-not_both
returns-clause-not_both c = not_refused
