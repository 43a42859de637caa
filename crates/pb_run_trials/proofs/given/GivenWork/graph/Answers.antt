use Rattle.std.proofs.Common.{ap, subst}
use Rattle.pb_run_trials.specs.Given.{GivenValue, IsGiven, given_plan}
use Rattle.pb_run_trials.proofs.GivenLemmas.{given-is-plan}
use Rattle.pb_run_trials.proofs.given.GivenWork.graph.Goals as goal

pub returns-clause-graph : goal.returns-clause-graph
unfolding given_plan
returns-clause-graph c = ap (λ (w : GivenValue). w.graph) c.self.view_is

pub returns-clause-plan : goal.returns-clause-plan
returns-clause-plan c = given-is-plan c.args.self.now (subst IsGiven c.self.view_is c.self.invariant)
