use Rattle.pb_cells.proofs.PortLemmas.{port-known, port-told}
use Rattle.pb_cells.proofs.port.JobPortCellReader.read.Goals as goal

pub read-requires-clause-known : goal.read-requires-clause-known
read-requires-clause-known g c = port-known g.N.NamesWork.plan _ _ _ _ c.self.invariant _ c.self.view_is c.args.cell c.requires

pub returns-clause-outcome : goal.returns-clause-outcome
returns-clause-outcome g c = port-told g.N.NamesWork.plan _ _ _ _ c.self.invariant _ c.self.view_is c.args.cell c.requires c.read.result c.read.ensures.outcome
