use Rattle.pb_top.proofs.StatusLemmas.{inside_has, outside_has}
use Rattle.pb_top.proofs.laws.a_command_has_its_statuses.Goals as goal

pub returns-clause-inside : goal.returns-clause-inside
returns-clause-inside c = λ words shelf out err status ask place ends line. inside_has words shelf out err status ends ask place line

pub returns-clause-outside : goal.returns-clause-outside
returns-clause-outside c = λ words shelf out err status ends outside. outside_has words shelf out err status ends outside
