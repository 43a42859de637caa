use Rattle.pb_plan.proofs.GraphLemmas.{is_graph}
use Rattle.pb_plan.proofs.laws.the_tasks_of_an_instance_are_a_graph.Goals as goal

pub returns : goal.returns
returns c = λ config number t a sizes grain i valid views row tasks are limits. is_graph config number t a sizes grain i valid views row tasks are limits
