use Rattle.std.proofs.Common.{◌≡◌, length}
use Rattle.pb_layers.specs.Numbers.{ArePlaces}
use Rattle.pb_layers.proofs.keys.places.Given as goal

abbrev pub invariant-loop-place : goal.invariant-loop-place
invariant-loop-place l = record { room : length l.places.items ≡ l.nodes; places : ArePlaces l.keys l.place l.places.items }
