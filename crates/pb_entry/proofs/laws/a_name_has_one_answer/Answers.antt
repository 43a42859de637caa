use Rattle.pb_entry.proofs.NamedLemmas.{enters_or_not, one_number, one_reason}
use Rattle.pb_entry.proofs.laws.a_name_has_one_answer.Goals as goal

pub returns-clause-one_number : goal.returns-clause-one_number
returns-clause-one_number c p name given t u well a b = one_number p name well given t u a b

pub returns-clause-one_refusal : goal.returns-clause-one_refusal
returns-clause-one_refusal c p name given e f well a b = one_reason p name well given e f a b

pub returns-clause-not_both : goal.returns-clause-not_both
returns-clause-not_both c p name given t e well a b = enters_or_not p name well given t e a b
