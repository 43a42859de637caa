use Rattle.std.proofs.Common.{◌≡◌, take}
use Rattle.std.specs.List.{flat_map}
use Rattle.pb_values.specs.Views.{view_cells}
use Rattle.pb_taskgraph.specs.Owners.{filled}
use Rattle.pb_taskgraph.proofs.owners.fill_task.Given as goal

abbrev pub invariant-loop-part : goal.invariant-loop-part
invariant-loop-part l = l.owners.items ≡ filled l.first l.initial.owners.items (flat_map (λ part. view_cells part.view) (take l.part-index l.parts)) l.task
