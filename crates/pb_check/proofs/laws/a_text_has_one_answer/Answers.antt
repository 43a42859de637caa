use Rattle.pb_check.proofs.AcceptLemmas.{accepted_or_refused, one_cause, one_program, some_text}
use Rattle.pb_check.proofs.laws.a_text_has_one_answer.Goals as goal

pub returns-clause-some : goal.returns-clause-some
returns-clause-some c = some_text

pub returns-clause-one_program : goal.returns-clause-one_program
returns-clause-one_program c = one_program

pub returns-clause-one_refusal : goal.returns-clause-one_refusal
returns-clause-one_refusal c = one_cause

pub returns-clause-not_both : goal.returns-clause-not_both
returns-clause-not_both c = accepted_or_refused
