use Rattle.pb_cells.proofs.PortLemmas.{made-port}
use Rattle.pb_cells.proofs.port.JobPort.new.Goals as goal

pub invariant_of-result : goal.invariant_of-result
invariant_of-result g c =
    made-port g.N.NamesWork.plan _ _ c.args.job.at.task c.args.job c.begins_untrapped.result c.requires.job c.requires.table c.begins_untrapped.ensures.inputs (λ h. c.requires.waits (c.begins_untrapped.ensures.waits h))
