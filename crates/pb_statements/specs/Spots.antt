-- The places of outputs in a list of numbers.
use Rattle.std.specs.Prelude.{ℕ, ◌+◌, ◌*◌, Bool, ◌&&◌, ◌==◌, nat_le, List, [], ◌∷◌}
use Rattle.pb_statements.specs.declared.spot.Spot.{Spot}

-- one after the other, from a place on, in so much room
abbrev pub are_laid : ℕ → List Spot → ℕ → Bool
are_laid from [] room = nat_le from room
are_laid from (s ∷ rest) room = (s.first == from) && are_laid (from + s.height * s.width) rest room
