use Rattle.pb_cells.proofs.PortLemmas.{port-begins, port-over}
use Rattle.pb_cells.proofs.port.run_named.Goals as goal

pub run-requires-clause-begins : goal.run-requires-clause-begins
run-requires-clause-begins g c = port-begins g.B.NamesTable.table c.args.task c.args.job c.requires.job c.new-port.result c.new-port.ensures _ _ c.requires.name

pub returns-clause-job : goal.returns-clause-job
returns-clause-job g c =
    port-over g.B.NamesTable.table c.args.task c.args.job c.requires.job c.new-port.result c.new-port.ensures g.N.NamesWork.plan c.run.new.port c.into_job.result c.run.ensures.written c.into_job.ensures.job c.into_job.ensures.few
