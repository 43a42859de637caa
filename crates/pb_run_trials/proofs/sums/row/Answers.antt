use Rattle.std.proofs.Common.{refl, arith}
use Rattle.pb_run_trials.proofs.SumsLemmas.{row-graph}
use Rattle.pb_run_trials.proofs.sums.row.Goals as goal

pub new-requires : goal.new-requires
new-requires c = row-graph c.args.steps (record { inputs = 2; cells = c.from.result; tasks = c.loop-task.tasks.items }) (record {
  few = c.requires;
  inputs = refl;
  cells = c.from.ensures;
  tasks = omega (arith, c.loop-task.invariant.tasks);
  steps = λ t d below. c.loop-task.invariant.steps t d (omega arith);
})
