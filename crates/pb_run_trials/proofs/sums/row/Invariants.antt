use Rattle.std.proofs.Common.{◌≡◌, ◌<◌, ℕ, length, get_or}
use Rattle.pb_taskgraph.specs.Graphs.{TaskValue}
use Rattle.pb_run_trials.specs.Sums.{IsStep}
use Rattle.pb_run_trials.proofs.sums.row.Given as goal

abbrev pub invariant-loop-task : goal.invariant-loop-task
invariant-loop-task l = record {
  tasks : length l.tasks.items ≡ l.task;
  steps : (t : ℕ) (d : TaskValue) → t < l.task → IsStep l.steps t (get_or l.tasks.items t d);
}
