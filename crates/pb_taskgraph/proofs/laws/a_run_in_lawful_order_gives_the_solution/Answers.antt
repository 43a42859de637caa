use Rattle.pb_taskgraph.proofs.OrderLemmas.{run-begins, run-ends}
use Rattle.pb_taskgraph.proofs.laws.a_run_in_lawful_order_gives_the_solution.Goals as goal

pub returns-clause-begins : goal.returns-clause-begins
returns-clause-begins c = λ p order told plan lawful given. run-begins p plan order told lawful given

pub returns-clause-solution : goal.returns-clause-solution
returns-clause-solution c = λ p order told plan lawful given. run-ends p plan order told lawful given
