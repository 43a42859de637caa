use Rattle.pb_run_trials.proofs.PlanLemmas.{first-given, second-given}
use Rattle.pb_run_trials.proofs.sums.SumsWork.input.Goals as goal

pub returns-then-cell-eq0 : goal.returns-then-cell-eq0
returns-then-cell-eq0 c = first-given _ c.args.self.now c.self.view_is c.self.invariant c.args.cell c.requires c.if-cell-eq0.true

pub returns-else-cell-eq0 : goal.returns-else-cell-eq0
returns-else-cell-eq0 c = second-given _ c.args.self.now c.self.view_is c.self.invariant c.args.cell c.requires c.if-cell-eq0.false
