use Rattle.std.proofs.Common.{◌≡◌, ◌++◌, drop}
use Rattle.std.specs.List.{flat_map}
use Rattle.pb_taskgraph.specs.Trace.{task_line_at}
use Rattle.pb_taskgraph.proofs.traces.write_tasks.Given as goal

abbrev pub invariant-loop-number : goal.invariant-loop-number
invariant-loop-number l =
    l.text.items ++ flat_map (task_line_at l.tasks) (drop l.number-index l.order) ≡ l.fn.text.items ++ flat_map (task_line_at l.tasks) l.order
