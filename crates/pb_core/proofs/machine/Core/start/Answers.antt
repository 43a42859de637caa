use Rattle.pb_core.proofs.StepLemmas.{start-machine, start-steps}
use Rattle.pb_core.proofs.machine.Core.start.Goals as goal

pub invariant_of-self : goal.invariant_of-self
invariant_of-self g c = start-machine g.N.NamesWork.plan _ _ _ _ _ c.self.invariant c.args.hand c.args.task c.start_task.result c.start_task.new.tasks.items c.start_task.ensures

pub returns : goal.returns
returns g c = start-steps g.N.NamesWork.plan _ c.args.self.now c.self.view_is c.args.hand c.args.task c.start_task.result c.start_task.new.tasks.items c.start_task.ensures
