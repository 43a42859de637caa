use Rattle.std.proofs.Common.{◌≡◌, ◌≤◌, length}
use Rattle.std.specs.List.{sum_by}
use Rattle.pb_links.proofs.TurnLemmas.{befores}
use Rattle.pb_links.proofs.tasks.all_before.Given as goal

abbrev pub invariant-loop-task : goal.invariant-loop-task
invariant-loop-task l = (l.before.items ≡ befores l.tasks l.task) × (l.count ≡ sum_by length (befores l.tasks l.task)) × (l.count ≤ l.most)
