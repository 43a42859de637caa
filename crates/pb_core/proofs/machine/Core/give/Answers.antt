use Rattle.pb_core.proofs.StepLemmas.{give-machine, give-steps}
use Rattle.pb_core.proofs.machine.Core.give.Goals as goal

pub invariant_of-self : goal.invariant_of-self
invariant_of-self g c = give-machine g.N.NamesWork.plan _ _ _ _ _ c.self.invariant c.args.giver c.args.taker c.args.task c.give_task.result c.give_task.new.tasks.items c.give_task.ensures

pub returns : goal.returns
returns g c = give-steps g.N.NamesWork.plan _ c.args.self.now c.self.view_is c.args.giver c.args.taker c.args.task c.give_task.result c.give_task.new.tasks.items c.give_task.ensures
