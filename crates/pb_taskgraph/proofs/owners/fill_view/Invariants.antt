use Rattle.std.proofs.Common.{◌≡◌}
use Rattle.std.specs.List.{flat_map, range_with_len}
use Rattle.pb_values.specs.Views.{row_cells}
use Rattle.pb_taskgraph.specs.Owners.{filled}
use Rattle.pb_taskgraph.proofs.owners.fill_view.Given as goal

abbrev pub invariant-loop-y : goal.invariant-loop-y
invariant-loop-y l = l.owners.items ≡ filled l.first l.initial.owners.items (flat_map (row_cells l.view) (range_with_len 0 l.y)) l.task
