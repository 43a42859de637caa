use Rattle.std.proofs.Common.{subst, sym}
use Rattle.pb_locked.specs.Jobs.{TellsOthers}
use Rattle.pb_locked.proofs.ports.TaskPortCellPort.write.Goals as goal

pub invariant_of-self : goal.invariant_of-self
invariant_of-self g c = subst (λ t. TellsOthers g.N.NamesWork.plan t (g.S.Source.asks c.self.inside.others) (g.S.Source.answers c.self.inside.others)) (sym c.put.ensures.task) c.self.invariant
