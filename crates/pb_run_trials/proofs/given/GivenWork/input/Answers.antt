use Rattle.std.proofs.Common.{subst, arith}
use Rattle.pb_run_trials.specs.Given.{IsGiven, given_plan}
use Rattle.pb_run_trials.proofs.given.GivenWork.input.Goals as goal

pub outcome-requires : goal.outcome-requires
unfolding given_plan
outcome-requires c = let is = subst IsGiven c.self.view_is c.self.invariant in omega (arith, c.requires, is.split.cells)

pub returns : goal.returns
unfolding given_plan
returns c = c.outcome.ensures
