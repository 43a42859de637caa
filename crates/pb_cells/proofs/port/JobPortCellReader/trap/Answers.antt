use Rattle.std.proofs.Common.{refl, sym, subst}
use Rattle.pb_values.specs.Cells.{TellsTrap}
use Rattle.pb_cells.proofs.PortLemmas.{port-known, port-told}
use Rattle.pb_cells.proofs.port.JobPortCellReader.trap.Goals as goal

pub trap-requires-clause-known : goal.trap-requires-clause-known
trap-requires-clause-known g c = port-known g.N.NamesWork.plan _ _ _ _ c.self.invariant _ c.self.view_is c.args.cell c.requires

pub returns-clause-trap : goal.returns-clause-trap
returns-clause-trap g c = subst (λ o. TellsTrap o c.trap.result) (sym (port-told g.N.NamesWork.plan _ _ _ _ c.self.invariant _ c.self.view_is c.args.cell c.requires _ refl)) c.trap.ensures.trap
