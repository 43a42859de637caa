use Rattle.std.proofs.Common.{◌≡◌, map, take}
use Rattle.std.specs.List.{All}
use Rattle.pb_linear.specs.Sizes.{sizes_of}
use Rattle.pb_views.specs.Seats.{IsSmall}
use Rattle.pb_steps.specs.Stands.{shown_seat}
use Rattle.pb_steps.proofs.seats.view_seats.Given as goal

abbrev pub invariant-loop-k : goal.invariant-loop-k
invariant-loop-k l = record {
  seats : l.found.items ≡ map (shown_seat l.t.matrices (sizes_of l.here.sizes) l.here.seats) (take l.k l.views);
  small : All IsSmall l.found.items;
}
