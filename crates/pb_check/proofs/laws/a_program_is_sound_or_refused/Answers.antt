use Rattle.pb_check.proofs.PhaseLemmas.{sound_or_refused, one_refusal, not_both}
use Rattle.pb_check.proofs.laws.a_program_is_sound_or_refused.Goals as goal

pub returns-clause-some : goal.returns-clause-some
returns-clause-some c = sound_or_refused

pub returns-clause-one_refusal : goal.returns-clause-one_refusal
returns-clause-one_refusal c = one_refusal

pub returns-clause-not_both : goal.returns-clause-not_both
returns-clause-not_both c = not_both
