use Rattle.std.proofs.Common.{ap, subst, arith}
use Rattle.pb_run_trials.specs.Given.{GivenValue, IsGiven}
use Rattle.pb_run_trials.proofs.GivenLemmas.{given-first, given-second}
use Rattle.pb_run_trials.proofs.given.Given.end.Goals as goal

pub returns-then-task-eq0-clause-end : goal.returns-then-task-eq0-clause-end
returns-then-task-eq0-clause-end c =
    let is = subst IsGiven c.self.view_is c.self.invariant in
    omega (arith, c.inputs.ensures, c.if-task-eq0.true, ap (λ (w : GivenValue). w.graph.inputs) c.self.view_is, given-first c.args.self.now is c.args.task c.requires c.if-task-eq0.true)

pub returns-else-task-eq0-clause-end : goal.returns-else-task-eq0-clause-end
returns-else-task-eq0-clause-end c =
    let is = subst IsGiven c.self.view_is c.self.invariant in
    omega (arith, c.cells.ensures, ap (λ (w : GivenValue). w.graph.cells) c.self.view_is, given-second c.args.self.now is c.args.task c.requires c.if-task-eq0.false)
