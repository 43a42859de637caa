use Rattle.pb_locked.proofs.TakeLemmas.{take-other, take-own}
use Rattle.pb_locked.proofs.board.take_task.Goals as goal

pub returns-in-Some : goal.returns-in-Some
returns-in-Some g c = take-other g.N.NamesWork.plan c.args.core.now c.args.hand c.args.task c.progress.result c.progress.ensures c.requires.enabled c.in-Some.giver c.in-Some.ensures c.step-given.result c.step-started.result c.step-given.new.self c.step-started.new.self c.step-given.ensures c.step-started.ensures

pub returns-in-None : goal.returns-in-None
returns-in-None g c = take-own g.N.NamesWork.plan c.args.core.now c.args.hand c.args.task c.progress.result c.progress.ensures c.requires.enabled c.in-None.ensures c.step-started-in-None.result c.step-started-in-None.new.self c.step-started-in-None.ensures
