use Rattle.std.proofs.Common.{◌∙◌, ap, arith, length, slice_set, true}
use Rattle.pb_core.proofs.LinkLemmas.{link-below, link-place, next-below, next-waits, released-machine, released-steps, row-is}
use Rattle.pb_core.proofs.machine.Core.release.Goals as goal

pub index_mut-requires : goal.index_mut-requires
index_mut-requires g c = omega (arith, c.self.inside.released.ok.0, c.self.invariant.core.released, link-below g.N.NamesWork.plan _ _ _ _ _ c.self.invariant c.args.self.now c.self.view_is c.args.hand c.args.task c.args.next c.in-Some.place c.in-Some.ensures)

pub set-requires : goal.set-requires
set-requires g c =
    let below = link-below g.N.NamesWork.plan _ _ _ _ _ c.self.invariant c.args.self.now c.self.view_is c.args.hand c.args.task c.args.next c.in-Some.place c.in-Some.ensures in
    let place = link-place g.N.NamesWork.plan _ _ _ _ _ c.self.invariant c.args.self.now c.self.view_is c.args.hand c.args.task c.args.next c.in-Some.place c.in-Some.ensures in
    omega (arith, place, ap length (row-is c.self.inside.released.items c.args.task c.index_mut.result.now (omega (arith, c.self.invariant.core.released, below)) c.index_mut.ensures.value))

pub release_task-requires-clause-task : goal.release_task-requires-clause-task
release_task-requires-clause-task g c = next-below g.N.NamesWork.plan _ _ _ _ _ c.self.invariant c.args.self.now c.self.view_is c.args.hand c.args.task c.args.next c.in-Some.place c.in-Some.ensures

pub release_task-requires-clause-count : goal.release_task-requires-clause-count
release_task-requires-clause-count g c = next-waits g.N.NamesWork.plan _ _ _ _ _ c.self.invariant c.args.self.now c.self.view_is c.args.hand c.args.task c.args.next c.in-Some.place c.in-Some.ensures

pub invariant_of-self : goal.invariant_of-self
invariant_of-self g c =
    let below = link-below g.N.NamesWork.plan _ _ _ _ _ c.self.invariant c.args.self.now c.self.view_is c.args.hand c.args.task c.args.next c.in-Some.place c.in-Some.ensures in
    let row = row-is c.self.inside.released.items c.args.task c.index_mut.result.now (omega (arith, c.self.invariant.core.released, below)) c.index_mut.ensures.value in
    released-machine g.N.NamesWork.plan _ _ _ _ _ c.self.invariant c.args.self.now c.self.view_is c.args.hand c.args.task c.args.next c.in-Some.place c.in-Some.ensures
    c.release_task.new.tasks.items c.release_task.ensures c.set.new.self (c.set.ensures ∙ ap (λ l. slice_set l c.in-Some.place true) row)

pub returns : goal.returns
returns g c =
    let below = link-below g.N.NamesWork.plan _ _ _ _ _ c.self.invariant c.args.self.now c.self.view_is c.args.hand c.args.task c.args.next c.in-Some.place c.in-Some.ensures in
    let row = row-is c.self.inside.released.items c.args.task c.index_mut.result.now (omega (arith, c.self.invariant.core.released, below)) c.index_mut.ensures.value in
    released-steps g.N.NamesWork.plan _ _ _ _ _ c.self.invariant c.args.self.now c.self.view_is c.args.hand c.args.task c.args.next c.in-Some.place c.in-Some.ensures
    c.release_task.new.tasks.items c.release_task.ensures c.set.new.self (c.set.ensures ∙ ap (λ l. slice_set l c.in-Some.place true) row)
