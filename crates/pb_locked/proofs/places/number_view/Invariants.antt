use Rattle.std.proofs.Common.{◌≡◌, ◌+◌, length, take}
use Rattle.std.specs.List.{flat_map, range_with_len}
use Rattle.pb_values.specs.Views.{row_cells}
use Rattle.pb_locked.specs.Places.{numbered}
use Rattle.pb_locked.proofs.places.number_view.Given as goal

abbrev pub invariant-loop-y : goal.invariant-loop-y
invariant-loop-y l = record {
  places : l.places.items ≡ numbered l.initial.places.items (flat_map (row_cells l.view) (take l.y (range_with_len 0 l.view.shape.h))) l.first;
  next : l.next ≡ l.first + length (flat_map (row_cells l.view) (take l.y (range_with_len 0 l.view.shape.h)));
}
