use Rattle.std.proofs.Common.{◌≡◌, map}
use Rattle.std.specs.List.{range_with_len}
use Rattle.pb_values.specs.Views.{cell_of}
use Rattle.pb_taskgraph.specs.Owners.{filled}
use Rattle.pb_taskgraph.proofs.owners.fill_row.Given as goal

abbrev pub invariant-loop-x : goal.invariant-loop-x
invariant-loop-x l = l.owners ≡ filled l.first l.initial.owners (map (λ x. cell_of l.view x l.y) (range_with_len 0 l.x)) l.task
