use Rattle.std.proofs.Common.{◌≡◌, take}
use Rattle.std.specs.List.{All}
use Rattle.pb_counts.specs.Handed.{after_matrices, seats_from}
use Rattle.pb_views.specs.Seats.{IsSmall}
use Rattle.pb_steps.specs.Stands.{met_of}
use Rattle.pb_steps.proofs.met.Met.meet_matrices.Given as goal

abbrev pub invariant-loop-k : goal.invariant-loop-k
invariant-loop-k l = record {
  seats : l.seats.items ≡ seats_from (met_of l.initial.self) (take l.k l.sides);
  small : All IsSmall l.seats.items;
  met : met_of l.self ≡ after_matrices (met_of l.initial.self) (take l.k l.sides);
}
