use Rattle.pb_recursion.proofs.OrderedLemmas.{plan_ordered}
use Rattle.pb_recursion.proofs.laws.a_plan_passes_on_what_is_there.Goals as goal

pub returns : goal.returns
returns c = λ p number t rule r well sound at there is. plan_ordered p number t rule r well sound at there is
