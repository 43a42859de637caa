use Rattle.std.proofs.Common.{get_or}
use Rattle.pb_taskgraph.specs.Trace.{task_line, task_line_at}
use Rattle.pb_taskgraph.proofs.LineLemmas.{line_at, line_more}
use Rattle.pb_taskgraph.proofs.traces.write_tasks.Goals as goal

pub loop-number-preserved : goal.loop-number-preserved
loop-number-preserved c =
    let tasks = c.args.tasks.now in
    let order = c.args.order.now in
    let i = c.loop-number.number-index in
    let task = c.index-tasks-number.result in
    let line = line_at tasks (get_or order i 0) task (c.requires i 0 c.loop-number-test.true) c.index-tasks-number.is in
    line_more (task_line_at tasks) order i (task_line (get_or order i 0) task) c.loop-number.text.items c.write_task.new.text.items _ c.loop-number-test.true line c.in_ok-write_task.ensures c.loop-number.invariant
