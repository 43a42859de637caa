use Rattle.pb_core.proofs.FinishLemmas.{finish-machine, finish-room, finish-steps, not-whole}
use Rattle.pb_core.proofs.machine.Core.finish.Goals as goal

pub returns-then-not-is_whole : goal.returns-then-not-is_whole
returns-then-not-is_whole g c = not-whole g.N.NamesWork.plan _ _ _ _ _ c.self.invariant c.args.self.now c.self.view_is c.args.hand c.args.task c.if-not-is_whole.ensures

pub finish_task-requires : goal.finish_task-requires
finish_task-requires g c = finish-room g.N.NamesWork.plan _ _ _ _ _ c.self.invariant

pub invariant_of-self : goal.invariant_of-self
invariant_of-self g c =
    finish-machine g.N.NamesWork.plan _ _ _ _ _ c.self.invariant c.args.self.now c.self.view_is c.args.hand c.args.task c.if-not-is_whole.ensures
    c.finish_task.result c.finish_task.new.tasks.items c.finish_task.new.finished c.finish_task.ensures.tasks c.finish_task.ensures.finished

pub returns : goal.returns
returns g c =
    finish-steps g.N.NamesWork.plan _ _ _ _ _ c.self.invariant c.args.self.now c.self.view_is c.args.hand c.args.task c.if-not-is_whole.ensures
    c.finish_task.result c.finish_task.new.tasks.items c.finish_task.new.finished c.finish_task.ensures.tasks c.finish_task.ensures.finished
