use Rattle.std.proofs.Common.{◌≡◌, arith, subst}
use Rattle.pb_core.specs.Cores.{CanRun, HasRun}
use Rattle.pb_core.proofs.WriteLemmas.{write-can, write-cell, write-machine, write-steps}
use Rattle.pb_core.proofs.machine.Core.write.Goals as goal

pub learn-requires-clause-can : goal.learn-requires-clause-can
learn-requires-clause-can g c κs within =
    let same : c.self.inside.outcomes.items ≡ c.replace-outcomes.result.items = cc (c.replace-outcomes.ensures.value) in
    subst (CanRun g.N.NamesWork.plan c.in-Some.task) same (write-can g.N.NamesWork.plan _ _ _ _ _ c.self.invariant c.args.hand c.args.cell c.in-Some.task c.args.self.now c.self.view_is c.in-Some.ensures)

pub index_mut-requires : goal.index_mut-requires
index_mut-requires g c = omega (arith, c.self.inside.written.ok.0, c.self.invariant.core.written, write-cell g.N.NamesWork.plan _ _ _ _ _ c.self.invariant c.args.hand c.args.cell c.in-Some.task c.args.self.now c.self.view_is c.in-Some.ensures)

pub invariant_of-self : goal.invariant_of-self
invariant_of-self g c =
    let same : c.replace-outcomes.result.items ≡ c.self.inside.outcomes.items = cc (c.replace-outcomes.ensures.value) in
    let has = subst (λ l. HasRun g.N.NamesWork.plan c.in-Some.task l c.learn.result.items) same c.learn.ensures.has in
    write-machine g.N.NamesWork.plan _ _ _ _ _ c.self.invariant c.args.hand c.args.cell c.in-Some.task c.args.self.now c.self.view_is c.in-Some.ensures
    _ _ _ c.learn.ensures.fits c.learn.ensures.learned has.kept (has.own c.args.cell c.in-Some.ensures.0)

pub returns : goal.returns
returns g c = write-steps g.N.NamesWork.plan _ _ _ _ _ c.self.invariant c.args.hand c.args.cell c.in-Some.task c.args.self.now c.self.view_is c.in-Some.ensures
