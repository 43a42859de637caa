use Rattle.std.proofs.Common.{◌≡◌, map}
use Rattle.std.specs.List.{range_with_len}
use Rattle.pb_core.specs.Cores.{first_flags}
use Rattle.pb_core.proofs.first.first_links.Given as goal

abbrev pub invariant-loop-task : goal.invariant-loop-task
invariant-loop-task l = l.flags.items ≡ map (first_flags l.graph) (range_with_len 0 l.task)
