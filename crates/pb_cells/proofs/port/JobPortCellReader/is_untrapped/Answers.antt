use Rattle.pb_cells.proofs.PortLemmas.{port-untrapped}
use Rattle.pb_cells.proofs.port.JobPortCellReader.is_untrapped.Goals as goal

pub returns : goal.returns
returns g c = port-untrapped g.N.NamesWork.plan _ _ _ _ c.self.invariant _ c.self.view_is
