use Rattle.std.proofs.Common.{◌≡◌, [], replicate}
use Rattle.pb_links.proofs.turned.no_numbers.Given as goal

abbrev pub invariant-loop-task : goal.invariant-loop-task
invariant-loop-task l = l.lists.items ≡ replicate l._task []
