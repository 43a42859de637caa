use Rattle.std.proofs.Common.{arith}
use Rattle.pb_core.proofs.WriteLemmas.{store-machine, write-cell, write-steps}
use Rattle.pb_core.proofs.machine.Core.store.Goals as goal

pub index_mut-requires : goal.index_mut-requires
index_mut-requires g c = omega (arith, c.self.inside.outcomes.ok.0, c.self.invariant.learned.room, write-cell g.N.NamesWork.plan _ _ _ _ _ c.self.invariant c.args.hand c.args.cell c.in-Some.task c.args.self.now c.self.view_is c.in-Some.ensures)

pub index_mut-requires-2 : goal.index_mut-requires-2
index_mut-requires-2 g c = omega (arith, c.self.inside.written.ok.0, c.self.invariant.core.written, write-cell g.N.NamesWork.plan _ _ _ _ _ c.self.invariant c.args.hand c.args.cell c.in-Some.task c.args.self.now c.self.view_is c.in-Some.ensures)

pub invariant_of-self : goal.invariant_of-self
invariant_of-self g c = store-machine g.N.NamesWork.plan _ _ _ _ _ c.self.invariant c.args.hand c.args.cell c.in-Some.task c.args.self.now c.self.view_is c.in-Some.ensures c.args.v c.requires

pub returns : goal.returns
returns g c = write-steps g.N.NamesWork.plan _ _ _ _ _ c.self.invariant c.args.hand c.args.cell c.in-Some.task c.args.self.now c.self.view_is c.in-Some.ensures
