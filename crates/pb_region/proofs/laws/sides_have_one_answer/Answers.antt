use Rattle.pb_region.proofs.NegativeLemmas.{not_refused, one_negative}
use Rattle.pb_region.proofs.SomeLemmas.{sides_or_refused}
use Rattle.pb_region.proofs.laws.sides_have_one_answer.Goals as goal

pub returns-clause-some : goal.returns-clause-some
returns-clause-some c = sides_or_refused

pub returns-clause-one_refusal : goal.returns-clause-one_refusal
returns-clause-one_refusal c = one_negative

pub returns-clause-not_both : goal.returns-clause-not_both
returns-clause-not_both c = not_refused
