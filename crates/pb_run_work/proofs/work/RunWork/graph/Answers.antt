use Rattle.std.proofs.Common.{◌∙◌, ap, subst}
use Rattle.pb_run_work.specs.Running.{IsRunning, RunValue}
use Rattle.pb_run_work.proofs.RunningLemmas.{graph_is, plan_is}
use Rattle.pb_run_work.proofs.work.RunWork.graph.Goals as goal

pub returns-clause-graph : goal.returns-clause-graph
returns-clause-graph c = ap (λ (r : RunValue). r.graph) c.self.view_is ∙ graph_is c.args.self.now (subst IsRunning c.self.view_is c.self.invariant)

pub returns-clause-plan : goal.returns-clause-plan
returns-clause-plan c = plan_is c.args.self.now (subst IsRunning c.self.view_is c.self.invariant)
