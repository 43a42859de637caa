use Rattle.std.proofs.Common.{◌≡◌, length, take}
use Rattle.std.specs.List.{flat_map}
use Rattle.pb_values.specs.Views.{view_cells}
use Rattle.pb_taskgraph.specs.declared.task.Part.{Part}
use Rattle.pb_locked.specs.Places.{numbered}
use Rattle.pb_locked.proofs.places.number_parts.Given as goal

abbrev pub invariant-loop-part : goal.invariant-loop-part
invariant-loop-part l = record {
  places : l.places.items ≡ numbered l.initial.places.items (flat_map (λ (part : Part). view_cells part.view) (take l.part-index l.parts)) 0;
  next : l.next ≡ length (flat_map (λ (part : Part). view_cells part.view) (take l.part-index l.parts));
}
