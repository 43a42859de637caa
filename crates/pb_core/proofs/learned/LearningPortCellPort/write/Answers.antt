use Rattle.std.proofs.Common.{arith}
use Rattle.pb_taskgraph.proofs.SerialLemmas.{serial-next, serial-write}
use Rattle.pb_core.proofs.learned.LearningPortCellPort.write.Goals as goal

pub index_mut-requires : goal.index_mut-requires
index_mut-requires g c = omega (arith, c.self.inside.outcomes.ok.0, (serial-next g.N.NamesWork.plan _ c.args.self.now c.self.view_is c.self.invariant c.args.cell c.args.v c.requires).0)

pub overflow_add-self : goal.overflow_add-self
overflow_add-self g c = omega (arith, (serial-next g.N.NamesWork.plan _ c.args.self.now c.self.view_is c.self.invariant c.args.cell c.args.v c.requires).1)

pub returns : goal.returns
returns g c = serial-write g.N.NamesWork.plan _ c.args.self.now c.self.view_is c.self.invariant c.args.cell c.args.v c.requires
