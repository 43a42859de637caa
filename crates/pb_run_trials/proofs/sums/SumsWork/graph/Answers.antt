use Rattle.std.proofs.Common.{ap, subst}
use Rattle.pb_run_trials.specs.Sums.{AreSums, SumsValue, plan_of}
use Rattle.pb_run_trials.proofs.PlanLemmas.{sums-plan}
use Rattle.pb_run_trials.proofs.sums.SumsWork.graph.Goals as goal

pub returns-clause-graph : goal.returns-clause-graph
unfolding plan_of
returns-clause-graph c = ap (λ (w : SumsValue). w.graph) c.self.view_is

pub returns-clause-plan : goal.returns-clause-plan
returns-clause-plan c = sums-plan c.args.self.now (subst AreSums c.self.view_is c.self.invariant)
