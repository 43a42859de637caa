use Rattle.pb_locked.proofs.JobLemmas.{job-read}
use Rattle.pb_locked.proofs.ports.TaskPortCellReader.read.Goals as goal

pub returns-in-Some-clause-outcome : goal.returns-in-Some-clause-outcome
returns-in-Some-clause-outcome g c = job-read g.N.NamesWork.plan c.args.self.now c.args.cell c.in-Some.outcome c.requires c.in-Some.ensures.own

pub returns-clause-outcome : goal.returns-clause-outcome
returns-clause-outcome g c = job-read g.N.NamesWork.plan c.args.self.now c.args.cell c.ask.result c.requires ((c.self.invariant c.args.cell c.in_default.ensures.others).1 c.ask.result c.ask.ensures)
