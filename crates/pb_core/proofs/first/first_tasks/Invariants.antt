use Rattle.std.proofs.Common.{◌≡◌, map}
use Rattle.std.specs.List.{range_with_len}
use Rattle.pb_core.specs.Cores.{first_progress}
use Rattle.pb_core.proofs.first.first_tasks.Given as goal

abbrev pub invariant-loop-task : goal.invariant-loop-task
invariant-loop-task l = l.first.items ≡ map (first_progress l.graph l.hands) (range_with_len 0 l.task)
