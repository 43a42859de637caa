use Rattle.pb_recursion.proofs.DepthLemmas.{depth_settled}
use Rattle.pb_recursion.proofs.laws.each_cell_is_its_rules_equation.Goals as goal

pub returns : goal.returns
returns c = λ p config depth number t a ins well sound valid at found whole enters. depth_settled p config depth number t a ins well sound valid at found whole enters
