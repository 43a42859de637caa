use Rattle.pb_recursion.proofs.ShapeLemmas.{entered_given, entered_range}
use Rattle.pb_recursion.proofs.laws.a_fitting_call_is_given.Goals as goal

pub returns-clause-range : goal.returns-clause-range
returns-clause-range c = λ t ins enters. entered_range t ins enters

pub returns-clause-given : goal.returns-clause-given
returns-clause-given c = λ t ins inputs whole enters. entered_given t ins enters inputs whole
