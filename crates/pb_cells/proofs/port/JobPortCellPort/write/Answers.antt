use Rattle.pb_cells.proofs.PortLemmas.{port-goes-on, port-next, port-writes}
use Rattle.pb_cells.proofs.port.JobPortCellPort.write.Goals as goal

pub write-requires-clause-next : goal.write-requires-clause-next
write-requires-clause-next g c = port-next g.N.NamesWork.plan _ _ _ _ c.self.invariant _ c.self.view_is c.args.cell c.args.v c.requires

pub invariant_of-self : goal.invariant_of-self
invariant_of-self g c = port-goes-on g.N.NamesWork.plan _ _ _ _ c.self.invariant _ c.self.view_is c.args.cell c.args.v c.requires c.write.new.job c.write.ensures _ c.stays_untrapped-self-inside.ensures.before c.stays_untrapped-self-inside.ensures.written

pub returns : goal.returns
returns g c = port-writes g.N.NamesWork.plan _ _ _ _ c.self.invariant _ c.self.view_is c.args.cell c.args.v c.requires c.write.new.job c.write.ensures
