use Rattle.std.proofs.Common.{◌+◌, inr, refl, arith}
use Rattle.pb_links.proofs.TurnLemmas.{before-more, count-more, count-most}
use Rattle.pb_links.proofs.tasks.all_before.Goals as goal

pub returns-then-count-most-clause-refused : goal.returns-then-count-most-clause-refused
returns-then-count-most-clause-refused c =
    let tasks = c.args.tasks.now in
    let t = c.loop-task.task in
    let next = count-more tasks t c.loop-task.count c.in_ok-list.list.items c.loop-task.invariant.1 c.in_ok-list.ensures in
    let most = count-most tasks (t + 1) (omega (arith, c.loop-task-test.true)) in
    inr (refl, omega (arith, next, most, c.if-count-most.true, c.len.ensures))

pub loop-task-preserved : goal.loop-task-preserved
loop-task-preserved c =
    let tasks = c.args.tasks.now in
    let next = count-more tasks c.loop-task.task c.loop-task.count c.in_ok-list.list.items c.loop-task.invariant.1 c.in_ok-list.ensures in
    (before-more tasks c.loop-task.task c.loop-task.before.items c.put.new.lists.items c.in_ok-list.list.items c.loop-task.invariant.0 c.in_ok-list.ensures c.in_ok-put.ensures, omega (arith, next, c.len.ensures), c.if-count-most.false)
